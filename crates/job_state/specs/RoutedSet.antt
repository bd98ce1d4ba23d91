-- What the circuit of a finished routing occupies of its strip, as a function of the routing's
-- sources.
use Rattle.std.specs.Prelude.{List, [], Result, Ok}
use Rattle.job_state.specs.Prelude.{BlifFault, Resource}
use Rattle.job_state.specs.declared.sources.Sources.{Sources}
use Rattle.job_state.specs.declared.work.Work.{Work}
use Rattle.job_state.specs.declared.work.Work.TheVariants.{Routed}
use Rattle.job_state.specs.JobValue.{end_value}
use Rattle.job_state.specs.RoutedCircuits.{held_by}

-- routes occupy pins and wires, and their blocks occupy pads; work that isn't a routed circuit
-- occupies nothing
abbrev pub held_at_end : Result Work BlifFault → List Resource
held_at_end (Ok (Routed routed)) = held_by routed
held_at_end value = []

-- what a routing of these sources occupies at its end: for each net the pins and wires of its tree,
-- then a pad for each block that is on one. Nothing is sorted or removed: a node at which a tree
-- branches appears once for each of its paths
unfoldable pub resources_of : Sources → List Resource
resources_of sources = held_at_end (end_value sources)
