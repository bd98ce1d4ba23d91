-- The names of the crates below that this crate's definitions and contracts use.
pub use Rattle.arch_file.specs.declared.arch.Arch.{Arch}
pub use Rattle.blif.specs.CircuitOf.{circuit_of}
pub use Rattle.blif.specs.declared.circuit.Circuit.{Circuit}
pub use Rattle.blif.specs.declared.fault.BlifFault.{BlifFault}
pub use Rattle.block_places.specs.Fits.{fit_of}
pub use Rattle.block_places.specs.declared.fit.Fit.{Fit}
pub use Rattle.block_places.specs.declared.fit.Fit.TheVariants.{Fits, TooManyBlocks, TooManyPads}
pub use Rattle.cluster.specs.Blocks.{block_nets, net_name}
pub use Rattle.cluster.specs.Clusters.{PackedCircuit, packed_of, unfit_of}
pub use Rattle.cluster.specs.Keys.{keys_of}
pub use Rattle.grid.specs.Sizes.{IsStripSize}
pub use Rattle.grid.specs.declared.Strip.{Strip}
pub use Rattle.job_state.specs.Beginnings.{CanPack, CanPlace}
pub use Rattle.job_state.specs.Job.{IsFinished, JobState, first_step, is_over}
pub use Rattle.job_state.specs.JobValue.{end_value, is_last, packing_sources, placing_sources, routing_sources}
pub use Rattle.job_state.specs.RoutedSet.{resources_of}
pub use Rattle.job_state.specs.declared.sources.JobKind.{JobKind}
pub use Rattle.job_state.specs.declared.sources.JobKind.TheVariants.{Packing, Placing, Routing}
pub use Rattle.job_state.specs.declared.sources.Sources.{Sources}
pub use Rattle.job_state.specs.declared.step.JobStep.{JobStep}
pub use Rattle.job_state.specs.declared.work.Work.{Work}
pub use Rattle.job_state.specs.declared.work.Work.TheVariants.{GaveUp, NoPath, Placed, Routed}
pub use Rattle.kept_places.specs.Kept.{KeptPlaces, in_order}
pub use Rattle.line_text.specs.TextErrors.{Gives}
pub use Rattle.rr_graph.specs.Resources.{IsEarlier, has, is_there}
pub use Rattle.rr_graph.specs.declared.resource.Resource.{Resource}
pub use Rattle.strip_place.specs.Anneal.{places_by_block}
pub use Rattle.strip_place.specs.Keeping.{AreKeptOn}
pub use Rattle.strip_place.specs.declared.placing.TheConstants.{MAX_EFFORT}
pub use Rattle.vpr_files.specs.NetFile.{net_text_of}
pub use Rattle.vpr_files.specs.PlaceFile.{place_text_of}
pub use Rattle.vpr_files.specs.RouteFile.{route_text_of}
