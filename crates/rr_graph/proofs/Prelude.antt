-- The names that this crate's proofs use, but for its own lemmas.
pub use Rattle.std.proofs.Common.{Bool, List, [], ap, arith, cond, false, get_or, inl, inr, length, length-append, length-drop, map, min, mul_comm, nat_le, refl, rules, subst, suc, sym, take, true, vec_len, zero, ℕ, ◌%◌, ◌&&◌, ◌*◌, ◌++◌, ◌+◌, ◌-◌, ◌/◌, ◌<◌, ◌^◌, ◌||◌, ◌∙◌, ◌∷◌, ◌≡◌, ◌≤◌, ◌⊎◌}
pub use Rattle.std.proofs.lemmas.Bool.{and_from, and_parts, cases_Bool, cases_lt, cond-false, cond-true, eq-eqb, eqb-true, false≢true, le-leb, le-ltb, leb-true, lt-ltb, ltb-false, ltb-true, or_cases, or_left}
pub use Rattle.std.proofs.lemmas.Bool.Decides.{nat_tests}
pub use Rattle.std.proofs.lemmas.Grind.{same_number_lists}
pub use Rattle.std.proofs.lemmas.List.{append-nil, append_assoc, drop-append-le, drop_at, get_or-map, get_or_append_left, get_or_default, get_or_push, get_or_read, length-map, length_push, take-append-le, take_all, take_more}
pub use Rattle.std.proofs.lemmas.List.Concat.{flat_map-cons}
pub use Rattle.std.proofs.lemmas.List.Elements.{All-contains_itself, Contains-append_left, Contains-get_or, Contains-push, Contains-push_cases, filter-append}
pub use Rattle.std.proofs.lemmas.List.Folds.{list_any-append, list_any_at, list_any_none}
pub use Rattle.std.proofs.lemmas.List.FromFn.{get_or-range_with_len, length-range_with_len}
pub use Rattle.std.proofs.lemmas.List.Kept.{AllPairs-from_increasing, IsStrictlyIncreasing-filter}
pub use Rattle.std.proofs.lemmas.List.Sorted.{IsPartitionPoint-from_clause}
pub use Rattle.std.proofs.lemmas.Nat.{div-add-mod', div-mul-add, div_below, le-div, mod-mul-add, mod_below, mul-le, same_from_place}
pub use Rattle.std.proofs.lemmas.Option.{slice_get_past}
pub use Rattle.std.proofs.lemmas.Result.{on_ok_weaker}
pub use Rattle.std.specs.List.{flat_map, list_any, range_with_len}
pub use Rattle.std.specs.List.Sorted.{IsPartitionPoint, IsPartitionedBy, IsStrictlyIncreasing}
pub use Rattle.std.specs.Option.{option_map_or}
pub use Rattle.std.specs.Prelude.{All, Contains, filter, nat_lt, slice_get, slice_index, ◌==◌}
pub use Rattle.arch_file.proofs.FewPins.{few_pins}
pub use Rattle.arch_file.specs.declared.arch.Pin.{Pin}
pub use Rattle.arch_file.specs.declared.arch.PinClass.TheVariants.{Clock, Input, Output}
pub use Rattle.rr_graph.specs.Column.{AreFirsts, AreOrdered, AreSmall, IsColumnBelow, IsRising, Separates, is_earlier, is_same_member, member_key, most_of}
pub use Rattle.rr_graph.specs.Fabric.{AreTables, HasRow, HasRowAt, IsFabric, IsKept, IsPart, base_of, basis_of, beside_of, column_of, ends_of, shift_of, table_by, table_of, with_width}
unfoldable pub use Rattle.rr_graph.specs.Fabric.{table_graph}
pub use Rattle.rr_graph.specs.Geometry.{IsWire, WiresLead, across_of, capacity_of, crosses, distance, gap, is_block_number, is_block_row, is_chan_y, is_edge, is_next, is_node, is_pad_row, is_slot, is_together, is_wire, joins, meets, meets_track, node_at_offset, runs_along, sides_at, up_of}
pub use Rattle.rr_graph.specs.Graph.{Basis, IsAt, IsBasis, IsRoutingGraph, IsSameGraph, RoutingGraph, make_node}
unfoldable pub use Rattle.rr_graph.specs.Graph.{graph_of, nodes_of}
pub use Rattle.rr_graph.specs.Node.{IsBefore, rank_of}
pub use Rattle.rr_graph.specs.Numbering.{IsNumbering, column_count, in_column, member_at, no_member, node_of}
pub use Rattle.rr_graph.specs.Prelude.{Arch, IsArch, IsStripSize, Sides, Strip, input_count}
pub use Rattle.rr_graph.specs.Table.{IsRowAt, IsRowBelow, IsRowBeside, IsRows, IsTable, columns_right, may_reach, row_of, rows_above}
pub use Rattle.rr_graph.specs.declared.node.Member.{Member}
pub use Rattle.rr_graph.specs.declared.node.Node.{Node}
pub use Rattle.rr_graph.specs.declared.node.NodeKind.{NodeKind}
pub use Rattle.rr_graph.specs.declared.node.NodeKind.TheVariants.{ChanX, ChanY, Ipin, Opin, Sink, Source}
pub use Rattle.rr_graph.specs.declared.numbering.Numbering.{Numbering}
pub use Rattle.rr_graph.specs.declared.table.Table.{Table}
pub use Rattle.rr_graph.specs.declared.table.Tables.{Tables}
pub use lib.Dec.{ltb}
