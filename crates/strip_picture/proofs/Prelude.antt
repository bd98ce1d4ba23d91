-- The names that this crate's proofs use, but for its own lemmas.
pub use Rattle.std.proofs.Common.{Bool, List, [], ap, arith, bit_and, bit_or, cond, eqb, false, get_or, inl, inr, length, length-set, map, refl, replicate, set, subst, suc, sym, take, true, w64, zero, zero-add, ℕ, ◌%◌, ◌&&◌, ◌*◌, ◌++◌, ◌+◌, ◌/◌, ◌<◌, ◌==◌, ◌^◌, ◌||◌, ◌∙◌, ◌∷◌, ◌≡◌, ◌≤◌}
pub use Rattle.std.proofs.lemmas.Bool.Decides.{eqb_tells}
pub use Rattle.std.proofs.lemmas.List.{get_or-replicate, get_or-set_other, get_or-set_same, take_more}
pub use Rattle.std.proofs.lemmas.List.Folds.{list_any-append}
pub use Rattle.std.proofs.lemmas.List.FromFn.{map-range_with_len_more}
pub use Rattle.std.proofs.lemmas.List.Sums.{sum_by-cons}
pub use Rattle.std.proofs.lemmas.Nat.Bits.{bit_at_set_other, bit_at_set_same, shr_and_one}
pub use Rattle.std.proofs.lemmas.Option.{slice_get-get_or}
pub use Rattle.std.specs.Int.{bit_at}
pub use Rattle.std.specs.List.{count_by, flat_map, list_any, range_with_len}
pub use Rattle.arch_file.specs.declared.arch.TheConstants.{MAX_TRACKS}
pub use Rattle.line_text.proofs.WritingLemmas.{all_loop, part_loop, writes_part, writes_same}
pub use Rattle.line_text.specs.Writing.{TakesAll}
pub use Rattle.picture_lines.specs.declared.lattice.Direction.{Direction}
pub use Rattle.picture_lines.specs.declared.lattice.Direction.TheVariants.{Across, Up}
pub use Rattle.picture_lines.specs.declared.lattice.Lattice.{Lattice}
pub use Rattle.rr_graph.specs.declared.node.NodeKind.{NodeKind}
pub use Rattle.rr_graph.specs.declared.node.NodeKind.TheVariants.{ChanX, ChanY, Ipin, Opin, Sink, Source}
pub use Rattle.strip_files.specs.declared.route_node.RouteNode.{RouteNode}
pub use Rattle.strip_files.specs.declared.size.StripSize.{StripSize}
pub use Rattle.strip_picture.specs.Channels.{HasTracks, IsNoWire, IsWireOf, channel_number, goes, is_wire, use_of}
unfoldable pub use Rattle.strip_picture.specs.Channels.{tracks_in}
pub use Rattle.strip_picture.specs.Numbers.{goes_across, goes_up, middle, number_text, text_at}
pub use Rattle.strip_picture.specs.declared.channels.ChannelTracks.{ChannelTracks}
pub use Rattle.strip_picture.specs.declared.channels.TheConstants.{CHANNELS}
