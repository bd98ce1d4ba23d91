-- The names of the crates below that this crate's definitions and contracts use.
pub use Rattle.arch_file.specs.declared.arch.Arch.{Arch}
pub use Rattle.blif.specs.CircuitOf.{circuit_of}
pub use Rattle.blif.specs.declared.circuit.Circuit.{Circuit}
pub use Rattle.blif.specs.declared.circuit.TheConstants.{MAX_NETS}
pub use Rattle.blif.specs.declared.fault.BlifFault.{BlifFault}
pub use Rattle.block_places.specs.Fits.{fit_of}
pub use Rattle.block_places.specs.Placed.{ArePlaced, block_at, place_of}
pub use Rattle.block_places.specs.declared.fit.Fit.TheVariants.{Fits}
pub use Rattle.cluster.specs.Blocks.{block_nets, blocks_of}
pub use Rattle.cluster.specs.Clusters.{PackedCircuit, PackingUnderWay, packed_of, packing_steps, unfit_of}
pub use Rattle.cluster.specs.declared.block.Block.{Block}
pub use Rattle.cluster.specs.declared.block.Block.TheVariants.{Cluster}
pub use Rattle.grid.specs.Sizes.{IsStripSize}
pub use Rattle.grid.specs.declared.Strip.{Strip}
pub use Rattle.grid.specs.declared.place.Place.{Place}
pub use Rattle.kept_places.specs.Kept.{KeptPlaces}
pub use Rattle.pathfinder.specs.Negotiation.{Done, GaveUp, More, NoPath, Routed, Standing, routed_after}
pub use Rattle.pathfinder.specs.Overuse.{IsOveruse}
pub use Rattle.pathfinder.specs.PlacedNets.{nets_to_route, wiring_of}
pub use Rattle.pathfinder.specs.Routings.{IsAfter, RoutingState, routes_by_node}
pub use Rattle.pathfinder.specs.Wiring.{Net}
pub use Rattle.rr_graph.specs.Graph.{Basis, graph_of}
pub use Rattle.rr_graph.specs.Resources.{IsEarlier, has, is_there, resource_of}
pub use Rattle.rr_graph.specs.declared.node.Node.{Node}
pub use Rattle.rr_graph.specs.declared.resource.Resource.{Resource}
pub use Rattle.rr_graph.specs.declared.resource.ResourceKind.TheVariants.{Pad}
pub use Rattle.strip_place.specs.Anneal.{PlacingUnderWay, is_past_last, one_more, places_by_block}
pub use Rattle.strip_place.specs.Keeping.{AreKeptOn}
pub use Rattle.strip_place.specs.Pass.{cost_of}
pub use Rattle.strip_place.specs.Task.{task_of}
pub use Rattle.strip_place.specs.declared.placing.TheConstants.{MAX_EFFORT}
