-- The names that this crate's proofs use, but for its own lemmas.
pub use Rattle.std.proofs.Common.{All, Bool, List, None, Option, Some, [], ap, append-nil, append_assoc, arith, codes, cond, decimal, drop, eq-eqb, false, filter, get_or, length, lit<, map, nat_lt, option_and_then, position, refl, slice_get, slice_index_or, subst, sym, take, true, zero-add, ℕ, ◌&&◌, ◌++◌, ◌+◌, ◌<◌, ◌==◌, ◌||◌, ◌∙◌, ◌∷◌, ◌≡◌, ◌≤◌}
pub use Rattle.std.proofs.Math.Dec.{eqb}
pub use Rattle.std.proofs.lemmas.Bool.{ne_eqb}
pub use Rattle.std.proofs.lemmas.Fmt.{decimal_digit}
pub use Rattle.std.proofs.lemmas.Grind.{flat_map-append}
pub use Rattle.std.proofs.lemmas.Iterator.Adapters.{position_from-zero}
pub use Rattle.std.proofs.lemmas.List.{at_drop_all, at_drop_more, length-map, nil_from_length, take_all}
pub use Rattle.std.proofs.lemmas.List.Elements.{All-append, All-from_get_or, All-get_or, All-map}
pub use Rattle.std.proofs.lemmas.List.Folds.{flat_map-map, list_any_more}
pub use Rattle.std.proofs.lemmas.List.FromFn.{get_or-enumerate_from, get_or-range_with_len, length-enumerate_from, length-range_with_len}
pub use Rattle.std.proofs.lemmas.Option.{get_or_from_slice_get, slice_get-get_or, slice_get-map, slice_get_within}
pub use Rattle.std.proofs.lemmas.Slice.Zip.{get_or-zip, length-zip}
pub use Rattle.std.specs.List.{enumerate_from, flat_map, list_any, position_from, range_with_len, zip}
pub use Rattle.std.specs.Option.{option_eq, option_map_or}
pub use Rattle.std.specs.Prelude.{⊤}
pub use Rattle.arch_file.specs.contracts.arch.PinClass.{the_type}
pub use Rattle.arch_file.specs.declared.arch.Arch.{Arch}
pub use Rattle.arch_file.specs.declared.arch.Pin.{Pin}
pub use Rattle.blif.specs.LookupTables.{LookupTable}
pub use Rattle.blif.specs.declared.circuit.Circuit.{Circuit}
pub use Rattle.blif.specs.declared.latches.Latch.{Latch}
pub use Rattle.cluster.specs.Bles.{element_at}
unfoldable pub use Rattle.cluster.specs.Bles.{bles_of}
pub use Rattle.cluster.specs.ClusterPins.{seed_name}
unfoldable pub use Rattle.cluster.specs.Clusters.{cluster_of, clusters_after, packed_of}
pub use Rattle.cluster.specs.Packing.{IsPacked}
pub use Rattle.line_text.proofs.WritingLemmas.{all_found, all_loop, all_loop_end, all_none, all_range_end, all_same, part_first, part_loop, part_same, part_then, place_at, writes_part, writes_same, writes_then}
pub use Rattle.line_text.specs.Writing.{TakesAll}
pub use Rattle.strip_place.specs.Anneal.{PlacingUnderWay}
pub use Rattle.vpr_files.specs.BlockClusters.{HasCluster}
pub use Rattle.vpr_files.specs.FileParts.{connected_lines, connections, global_lines, net_heading, node_line, numbered_net, place_headings, placed_lines, route_headings, routed_lines}
pub use Rattle.vpr_files.specs.NetFile.{block_lines, driver_place, element_line, input_word, or_open, pin_with}
unfoldable pub use Rattle.vpr_files.specs.NetFile.{net_text_of}
pub use Rattle.vpr_files.specs.NodeText.{kind_word, number_word}
unfoldable pub use Rattle.vpr_files.specs.NodeText.{node_text_of}
pub use Rattle.vpr_files.specs.PlaceFile.{placed_line}
unfoldable pub use Rattle.vpr_files.specs.PlaceFile.{place_text_of}
pub use Rattle.vpr_files.specs.Prelude.{Block, BlockNet, ChanX, Clock, Cluster, Input, InputPad, Ipin, LogicElement, Node, NodeKind, Opin, Output, OutputPad, PackedCircuit, PinClass, Place, Sink, Source, Strip, block_at, block_name, block_nets, blocks_of, elements_in, is_same_class, net_name, outputs_of, pins_of, place_of, places_by_block}
pub use Rattle.vpr_files.specs.RouteFile.{connected_line, net_lines}
unfoldable pub use Rattle.vpr_files.specs.RouteFile.{route_text_of}
pub use Rattle.vpr_files.specs.TextLines.{line_of, text_of, word_after_space}
pub use denote.Enum.Bare.{sameb}
