-- The names that this crate's proofs use, but for its own lemmas.
pub use Rattle.std.proofs.Common.{List, Some, [], ap, arith, drop, get_or, inl, inr, length, map, refl, subst, suc, sym, take, zero, ℕ, ◌%◌, ◌*◌, ◌++◌, ◌+◌, ◌/◌, ◌<◌, ◌^◌, ◌∙◌, ◌∷◌, ◌≡◌, ◌≤◌, ◌⊎◌}
pub use Rattle.std.proofs.lemmas.Bool.{cases_eq, cases_lt}
pub use Rattle.std.proofs.lemmas.List.{get_or-map, length-map, length-take}
pub use Rattle.std.proofs.lemmas.List.Elements.{All-cons, All-contains, All-drop, All-map, All-nil, All-take, Contains-get_or}
pub use Rattle.std.proofs.lemmas.List.Sums.{sum_by-cons}
pub use Rattle.std.specs.List.{All, Contains}
pub use Rattle.std.specs.List.Sorted.{IsNonDecreasing}
pub use Rattle.flow_tests.specs.Lanes.{lane, lanes, lanes_graph, number, steps, track_of}
pub use Rattle.flow_tests.specs.Tables.{one_plane, pairs}
pub use Rattle.least_path.specs.Graph.{AreNodes, Graph, IsLawful}
pub use Rattle.least_path.specs.LowerBound.{IsLowerBound}
pub use Rattle.least_path.specs.Path.{IsPath, Leads, cost_of}
pub use Rattle.least_path.specs.declared.path.Path.{Path}
pub use Rattle.plane_search.specs.Planes.{Family, IsFamily, IsKnown, IsOn, IsPlane, IsPlaneBound}
pub use Rattle.plane_search.specs.Starts.{AreStarts, places_of}
pub use Rattle.plane_search.specs.declared.planes.Start.{Start}
