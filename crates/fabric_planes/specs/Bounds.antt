-- Lower bounds of the paths in the planes of a net.
use Rattle.std.specs.Prelude.{◌≡◌, ℕ, ◌+◌, ◌<◌, ◌≤◌, List, length, slice_index, sum_by, true}
use Rattle.fabric_planes.specs.Prelude.{Opin, Node, is_node, is_together, meets, Basis, graph_of, Leads, Family}
use Rattle.fabric_planes.specs.Layout.{place_of}
use Rattle.fabric_planes.specs.Sides.{IsAtSide}
use Rattle.fabric_planes.specs.Ways.{IsWireAt}
use Rattle.fabric_planes.specs.declared.bound_rows.Limits.{Limits}

-- Each way from the wire in its track's plane costs at least the bound, if the wire's cost and more
-- are added.
abbrev pub IsWireBound : Basis → (ℕ → ℕ) → Family → ℕ → ℕ → ℕ → Type 0
IsWireBound basis cost f more wire bound = (way : List ℕ) → Leads (f.plane ((graph_of basis).node wire).n) f.exit (place_of basis ((graph_of basis).node wire)) way
    → bound ≤ more + (cost wire + sum_by (f.plane ((graph_of basis).node wire).n).cost way)

-- an output pin of the source's block or pad
pub record IsOutput (basis : Basis) (source pin : Node) : Type 0 where
  pub there : is_node basis.arch basis.strip pin ≡ true
  pub kind : pin.kind ≡ Opin
  pub own : is_together basis.strip source pin ≡ true

-- the wire is at this side of the pin's block or pad, and the pin meets it
pub record IsMetAt (basis : Basis) (pin : Node) (side wire : ℕ) : Type 0 where
  pub wire_is : IsWireAt basis wire
  pub at : IsAtSide pin side ((graph_of basis).node wire).kind ((graph_of basis).node wire).x ((graph_of basis).node wire).y
  pub met : meets basis.arch basis.strip pin ((graph_of basis).node wire) ≡ true

-- no number is greater than before
pub record AreLowered (old new : List ℕ) : Type 0 where
  pub long : length new ≡ length old
  pub falls : (track : ℕ) → slice_index new track ≤ slice_index old track

-- no bound of a last wire and a pin is less
pub record AreLimits (basis : Basis) (leasts : List ℕ) (limits : Limits) : Type 0 where
  pub least : (track : ℕ) → track < basis.arch.tracks → limits.least ≤ slice_index leasts track
