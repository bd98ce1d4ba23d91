-- The tables of a net's planes.
use Rattle.std.specs.Prelude.{ℕ, List}
use Rattle.fabric_planes.specs.Prelude.{Basis}
use Rattle.fabric_planes.specs.declared.layout.Layout.{Layout}
use Rattle.fabric_planes.specs.declared.net_tables.NetTables.{NetTables}
use Rattle.fabric_planes.specs.Aheads.{AreSides}
use Rattle.fabric_planes.specs.Layout.{Terminals, planes_of}
use Rattle.fabric_planes.specs.Pins.{AreArrivals, ArePins, HaveEnds}
use Rattle.fabric_planes.specs.SideBounds.{AreBounds}
use Rattle.fabric_planes.specs.Starts.{HasStarts}

-- the tables are those of a net's planes, from these starts towards this goal, at these costs
pub record AreNetTables (basis : Basis) (cost : ℕ → ℕ) (starts : List ℕ) (goal : ℕ) (t : Terminals) (layout : Layout) (tables : NetTables) : Type 0 where
  pub sides : AreSides basis t.sink tables.sides.items
  pub own_sides : AreSides basis t.source tables.own_sides.items
  pub bounds : AreBounds basis cost t.sink tables.bounds
  pub pins : ArePins basis t tables.shown.items
  pub ends : HaveEnds (planes_of basis cost starts goal t) layout.pins.rows tables.shown.items
  pub arrivals : AreArrivals basis t.sink layout.arrivals.rows tables.first_arrivals.items
  pub starts_are : HasStarts basis starts tables.starts
