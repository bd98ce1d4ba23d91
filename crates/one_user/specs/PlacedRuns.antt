-- Private: the run of a netlist that is placed already, by its routing on a device.
use Rattle.std.specs.Prelude.{ℕ, ◌≡◌, ◌+◌, List, Option, Some, None, length}
use Rattle.one_user.specs.Prelude.{block_nets, ListsAll, RoutedCircuit, held_by, pads_of, nets_to_route, Net, IterEnd, Done, Basis, Node, Resource, PlacingUnderWay, places_by_block, net_text_of, place_text_of, route_text_of}
use Rattle.one_user.specs.Figures.{product, wires_in, wires_there}
use Rattle.one_user.specs.RoutingEnds.{IsLastIteration, IsRoutes, IsRoutingEnd}
use Rattle.one_user.specs.declared.figures.Figures.{Figures}
use Rattle.one_user.specs.declared.figures.PackedCounts.{PackedCounts}
use Rattle.one_user.specs.declared.outcome.Files.{Files}
use Rattle.one_user.specs.declared.outcome.FlowOutcome.TheVariants.{Routed}
use Rattle.one_user.specs.declared.outcome.Run.{Run}

-- the nets of a placing on a device
abbrev pub nets_on_device : Basis → PlacingUnderWay → List Net
nets_on_device basis placing = nets_to_route basis placing.packed (places_by_block placing)

-- the files of a placing and of these routes
abbrev pub files_with : PlacingUnderWay → List (List (List Node)) → Files
files_with placing routes = record {
  net = net_text_of placing.packed;
  places = place_text_of placing.strip placing.packed (places_by_block placing);
  routes = route_text_of placing.strip placing.packed (places_by_block placing) routes;
}

-- the counts of a packed circuit
abbrev pub counts_in : PlacingUnderWay → PackedCounts
counts_in placing = record {
  clusters = length placing.packed.clusters;
  pads = length placing.packed.circuit.inputs + length placing.packed.circuit.outputs;
  nets = length (block_nets placing.packed);
}

-- the placing's circuit, routed on the device with these routes
abbrev pub routed_with : Basis → PlacingUnderWay → List (List (List Node)) → RoutedCircuit
routed_with basis placing routes = record { basis = basis; routes = routes; pads = pads_of placing.packed (places_by_block placing) }

-- the figures of the placing and of these routes, which an iteration of that number found
pub record AreFiguresWith (basis : Basis) (placing : PlacingUnderWay) (routes : List (List (List Node))) (number : ℕ) (figures : Figures) : Type 0 where
  pub blocks : figures.blocks ≡ record { used = (counts_in placing).clusters; there = product basis.strip.width basis.strip.rows 1 }
  pub pads : figures.pads ≡ record { used = (counts_in placing).pads; there = product basis.strip.width 2 basis.strip.io_rat }
  pub nets : figures.nets ≡ (counts_in placing).nets
  pub held : List Resource
  pub lists : ListsAll (held_by (routed_with basis placing routes)) held
  pub wires_used : figures.wires.used ≡ wires_in held
  pub wires_there : figures.wires.there ≡ wires_there basis
  pub tracks : figures.tracks ≡ basis.arch.tracks
  pub iterations : figures.iterations ≡ number

-- the files and figures of the placing and of these routes
pub record IsRunWith (basis : Basis) (placing : PlacingUnderWay) (routes : List (List (List Node))) (number : ℕ) (run : Run) : Type 0 where
  pub outcome : run.outcome ≡ Routed (files_with placing routes)
  pub figures : Figures
  pub told : run.figures ≡ Some figures
  pub are_figures : AreFiguresWith basis placing routes number figures

-- the routing of the placing on the device ends with routes, in the iteration of that number
abbrev pub EndsWith : Basis → PlacingUnderWay → List (List (List Node)) → ℕ → Type 0
EndsWith basis placing routes number = IsLastIteration basis (nets_on_device basis placing) (record { end = Done routes; number = number })

-- the run with the routes that the routing of the placing ends with, `None` if it ends without
-- routes
abbrev pub IsRunOn : Basis → PlacingUnderWay → Option Run → Type 0
IsRunOn basis placing (Some run) = (routes : List (List (List Node))) × (number : ℕ) × EndsWith basis placing routes number × IsRunWith basis placing routes number run
IsRunOn basis placing None = (end : IterEnd) × IsRoutingEnd basis (nets_on_device basis placing) end × (IsRoutes end → ⊥)
