-- The outcome of a netlist that one user has on a device of its own: it is uploaded, packed, placed
-- without kept places and routed, as the service for a single user does it, and the files are that
-- service's replies at the end.
use Rattle.std.specs.Prelude.{ℕ, List, [], Result, Ok, Err, Option, Some, None}
use Rattle.one_user.specs.Prelude.{Arch, circuit_of, Circuit, BlifFault, packed_of, unfit_of, fit_of, Strip, end_value, placing_sources, routing_sources, Sources, Basis, ending_of, failure_of, place_file_of, route_file_of, misfit_of, RoutingFailure, Misfit, BadBlif, CannotPack, DoesNotFit, net_text_of}
use Rattle.one_user.specs.declared.outcome.Files.{Files}
use Rattle.one_user.specs.declared.outcome.Unrouted.{Unrouted as Left}
use Rattle.one_user.specs.declared.outcome.FlowOutcome.{FlowOutcome}
use Rattle.one_user.specs.declared.outcome.FlowOutcome.TheVariants.{Routed, Unrouted, Refused}

-- the task: the netlist on that device, placed with that seed and effort
pub record Task : Type 0 where
  pub arch : Arch
  pub strip : Strip
  pub text : List ℕ
  pub seed : ℕ
  pub effort : ℕ

-- that netlist on a device with that routing graph
abbrev pub task_on : Basis → List ℕ → ℕ → ℕ → Task
task_on device text seed effort = record { arch = device.arch; strip = device.strip; text = text; seed = seed; effort = effort }

-- the sources of its placing and its routing; no places are kept
abbrev pub placing_of : Task → Sources
placing_of task = placing_sources task.arch task.strip task.text [] task.seed task.effort

abbrev pub routing_of : Task → Sources
routing_of task = routing_sources task.arch task.strip task.text [] task.seed task.effort

-- the three files
abbrev pub files_of : Task → Circuit → Files
files_of task circuit = record {
  net = net_text_of (packed_of circuit task.arch);
  places = place_file_of (end_value (placing_of task));
  routes = route_file_of (end_value (placing_of task)) (end_value (routing_of task));
}

-- what there is if its routing fails so
abbrev pub left_of : Task → Circuit → RoutingFailure → Left
left_of task circuit failure = record {
  ending = ending_of (packed_of circuit task.arch) failure;
  net = net_text_of (packed_of circuit task.arch);
  places = place_file_of (end_value (placing_of task));
}

-- how its routing ends: without a failure there are routes
abbrev pub by_routing : Task → Circuit → Option RoutingFailure → FlowOutcome
by_routing task circuit None = Routed (files_of task circuit)
by_routing task circuit (Some failure) = Unrouted (left_of task circuit failure)

-- it is placed if the device has enough places
abbrev pub by_fit : Task → Circuit → Option Misfit → FlowOutcome
by_fit task circuit None = by_routing task circuit (failure_of (end_value (routing_of task)))
by_fit task circuit (Some misfit) = Refused (DoesNotFit misfit)

-- it is packed if each BLE fits into a cluster alone
abbrev pub by_packing : Task → Circuit → Option ℕ → FlowOutcome
by_packing task circuit None = by_fit task circuit (misfit_of (fit_of task.strip (packed_of circuit task.arch)))
by_packing task circuit (Some ble) = Refused (CannotPack ble)

-- it is loaded if it has no fault
abbrev pub by_netlist : Task → Result Circuit BlifFault → FlowOutcome
by_netlist task (Ok circuit) = by_packing task circuit (unfit_of circuit task.arch)
by_netlist task (Err fault) = Refused (BadBlif fault)

-- the outcome of the task
abbrev pub outcome_of : Task → FlowOutcome
outcome_of task = by_netlist task (circuit_of task.text task.arch.lut_size)
