-- The names that this crate's proofs use, but for its own lemmas.
pub use Rattle.std.proofs.Common.{List, [], ap, arith, get_or, inl, inr, length, min, refl, subst, sym, take, ℕ, ◌++◌, ◌+◌, ◌-◌, ◌<◌, ◌^◌, ◌∙◌, ◌∷◌, ◌≡◌, ◌≤◌, ◌⊎◌}
pub use Rattle.std.proofs.Math.Seq.{take-length}
pub use Rattle.std.proofs.lemmas.Bool.{cases_lt}
pub use Rattle.std.proofs.lemmas.List.{get_or_append_left, get_or_push, length-append, take-append-le, take_more}
pub use Rattle.std.proofs.lemmas.List.Sums.{sum_by_push}
pub use Rattle.std.specs.List.{sum}
pub use Rattle.path_wires.specs.Wires.{AreCounts, AreSmall, AreUpTo, IsWireCount, depth_at, wires_at}
pub use Rattle.path_wires.specs.declared.hops.Hop.{Hop}
pub use Rattle.strip_files.specs.declared.route_node.RouteNode.{RouteNode}
