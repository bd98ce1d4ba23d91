-- The names that this crate's proofs use, but for its own lemmas.
pub use Rattle.std.proofs.Common.{Bool, List, None, Option, Some, [], ap, arith, below_more, drop, eqb, false, filter, get_or, inl, inr, length, length-append, map, nat_le, not, refl, rules, subst, suc, sym, take, true, zero, ℕ, ◌&&◌, ◌++◌, ◌+◌, ◌-◌, ◌<◌, ◌||◌, ◌∙◌, ◌∷◌, ◌≡◌, ◌≢◌, ◌≤◌, ◌⊎◌}
pub use Rattle.std.proofs.Math.ListN.{get_or-append}
pub use Rattle.std.proofs.Math.Seq.{get_or-append_seam}
pub use Rattle.std.proofs.lemmas.Bool.{and_parts, cases_lt, cases_order, eqb-true, false≢true, le-leb, leb-true}
pub use Rattle.std.proofs.lemmas.Bool.Decides.{Decides-eqb, nat_tests}
pub use Rattle.std.proofs.lemmas.List.{append-nil, drop_all, get_or-map, get_or_default, length-map, take_all}
pub use Rattle.std.proofs.lemmas.List.Edits.{map_over_more}
pub use Rattle.std.proofs.lemmas.List.Elements.{All-filter, All-push, All-same}
pub use Rattle.std.proofs.lemmas.List.Kept.{AllPairs-filter}
pub use Rattle.std.proofs.lemmas.List.Quantifiers.{all_pairs_push}
pub use Rattle.std.specs.List.{refill}
pub use Rattle.std.specs.Prelude.{All, if◌then◌else◌, option_map, slice_set}
pub use Rattle.arch_file.specs.declared.arch.Arch.{Arch}
pub use Rattle.arrayvec.proofs.ArrayVecLemmas.{filter-from_retain}
pub use Rattle.grid.specs.declared.Strip.{Strip}
pub use Rattle.rr_graph.specs.Geometry.{crosses, is_chan_y, is_edge, is_next, is_node, is_slot, joins, node_at_offset, runs_along, sides_at}
pub use Rattle.rr_graph.specs.declared.node.Node.{Node}
pub use Rattle.rr_graph.specs.declared.node.NodeKind.{NodeKind}
pub use Rattle.rr_graph.specs.declared.node.NodeKind.TheVariants.{ChanX, ChanY, Ipin, Opin, Sink, Source}
pub use Rattle.strips.specs.Plan.{AreApart, FitsAt, HasRoomFor, IsLaidOut, IsParted, Plan, is_bad_width, moved_strip, offset_of, strip_of, strips_without, with_moved, with_strip}
pub use Rattle.strips.specs.Windows.{IsBeside, IsPinOrAcross, is_in_window, moved_back, strip_of_width}
pub use Rattle.strips.specs.declared.layout.TheConstants.{MAX_STRIPS}
pub use Rattle.strips.specs.declared.placed_strip.PlacedStrip.{PlacedStrip}
