-- The names that this crate's proofs use, but for its own lemmas.
pub use Rattle.std.proofs.Common.{Bool, List, Some, [], ap, arith, cond, eq-eqb, false, get_or, inl, inr, map, refl, subst, suc, sym, take, true, zero, ℕ, ◌&&◌, ◌*◌, ◌+◌, ◌-◌, ◌<◌, ◌||◌, ◌∙◌, ◌∷◌, ◌≡◌, ◌≤◌, ◌⊎◌}
pub use Rattle.std.proofs.lemmas.Bool.{and_from, and_parts, cases_eq, cases_order, false≢true, leb-true, ltb-true, not-true, or_cases, or_left, or_right}
pub use Rattle.std.proofs.lemmas.List.Elements.{Contains-append_cases, Contains-append_left, Contains-append_right}
pub use Rattle.std.proofs.lemmas.List.Folds.{list_any_at}
pub use Rattle.std.proofs.lemmas.List.Sums.{sum_by-cons, sum_by_more}
pub use Rattle.std.proofs.lemmas.Option.{get_or_from_slice_get, slice_get_within}
pub use Rattle.std.specs.List.{AllZip, Contains, list_any}
pub use Rattle.std.specs.Prelude.{count_by, nat_le, nat_lt, slice_get}
pub use Rattle.arch_file.specs.declared.arch.Arch.{Arch}
pub use Rattle.block_places.specs.Placed.{block_at, place_of}
pub use Rattle.cluster.specs.Blocks.{BlockNet, block_nets}
pub use Rattle.cluster.specs.Clusters.{PackedCircuit}
pub use Rattle.grid.specs.declared.Strip.{Strip}
pub use Rattle.grid.specs.declared.place.Place.{Place}
pub use Rattle.pathfinder.proofs.PlacedTerminals.{are_nets}
pub use Rattle.pathfinder.proofs.Steps.{in_cases, in_first, in_later, in_none}
pub use Rattle.pathfinder.specs.LegalRoutes.{IsLegal, IsRoute, IsRouted, LeadsOver, pairs_of, path_nodes, steps_of}
pub use Rattle.pathfinder.specs.Negotiation.{routed_after}
pub use Rattle.pathfinder.specs.PlacedNets.{nets_to_route, wiring_of}
pub use Rattle.pathfinder.specs.Routings.{routes_by_node}
pub use Rattle.pathfinder.specs.Terminals.{is_same_node, net_sinks, net_source, sink_at}
pub use Rattle.rr_graph.proofs.Nearness.{IsReached, any_below, joins_reached}
pub use Rattle.rr_graph.specs.Geometry.{across_of, capacity_of, is_block_row, is_chan_y, is_edge, is_node, is_slot, joins}
pub use Rattle.rr_graph.specs.Graph.{graph_of, make_node}
pub use Rattle.rr_graph.specs.Node.{rank_of}
pub use Rattle.rr_graph.specs.declared.node.Node.{Node}
pub use Rattle.rr_graph.specs.declared.node.NodeKind.{NodeKind}
pub use Rattle.rr_graph.specs.declared.node.NodeKind.TheVariants.{ChanX, ChanY, Ipin, Opin, Sink, Source}
pub use Rattle.track_bound.specs.Busiest.{IsBusiest}
pub use Rattle.track_bound.specs.Crossings.{crosses_column, crossing_count, is_between}
pub use Rattle.track_bound.specs.declared.crossing.Crossing.{Crossing}
