-- Private: the layout of a strip's graph.
use Rattle.std.specs.Prelude.{◌≡◌, ℕ, ◌+◌}
use Rattle.fabric_planes.specs.Prelude.{Basis, graph_of}
use Rattle.fabric_planes.specs.declared.layout.Layout.{Layout}
use Rattle.fabric_planes.specs.ArrivalRows.{AreArrivalRows}
use Rattle.fabric_planes.specs.InputSides.{AreInputSides}
use Rattle.fabric_planes.specs.Layout.{band_of, stride_of, place_of}
use Rattle.fabric_planes.specs.PinRows.{ArePinRows}
use Rattle.fabric_planes.specs.Tables.{IsShapeOf, AreFirsts}
use Rattle.fabric_planes.specs.declared.distances.Target.TheVariants.{Level, Upright, Block}
use Rattle.fabric_planes.specs.Differences.{far_table}
use Rattle.fabric_planes.specs.Steps.{AreSteps}
use Rattle.fabric_planes.specs.Ways.{IsWireAt}

-- the tables are those of the strip
pub record IsLayout (basis : Basis) (layout : Layout) : Type 0 where
  pub shape : IsShapeOf basis layout.shape
  pub firsts : AreFirsts basis layout.firsts.items
  pub steps : AreSteps basis layout.steps
  pub to_level : layout.to_level.items ≡ far_table Level (basis.strip.width + 3) (band_of basis) (stride_of basis)
  pub to_upright : layout.to_upright.items ≡ far_table Upright (basis.strip.width + 3) (band_of basis) (stride_of basis)
  pub to_block : layout.to_block.items ≡ far_table Block (basis.strip.width + 3) (band_of basis) (stride_of basis)
  pub arrivals : AreArrivalRows basis layout.arrivals
  pub pins : ArePinRows basis layout.pins
  pub inputs : AreInputSides basis layout.inputs.items

-- the wire with this number is at the place
pub record IsWireOf (basis : Basis) (place number : ℕ) : Type 0 where
  pub wire : IsWireAt basis number
  pub is_at : place_of basis ((graph_of basis).node number) ≡ place
