-- Private: the steps of wires.
use Rattle.std.specs.Prelude.{◌≡◌, ℕ, ◌+◌, ◌-◌, ◌*◌, ◌^◌, ◌<◌, ◌≤◌, min, Some, List, length, slice_get, slice_index}
use Rattle.fabric_planes.specs.Prelude.{Node, node_at_offset, Basis, graph_of}
use Rattle.fabric_planes.specs.declared.ends.View.{View}
use Rattle.fabric_planes.specs.declared.steps.Steps.{Steps}
use Rattle.fabric_planes.specs.Ends.{row_of}
use Rattle.fabric_planes.specs.Layout.{place_count, stride_of}
use Rattle.fabric_planes.specs.Tables.{IsFirstAt}

-- the rows stay where they are
abbrev pub KeepsRows : List (List ℕ) → List (List ℕ) → Type 0
KeepsRows old new = (number : ℕ) (row : List ℕ) → slice_get old number ≡ Some row → slice_get new number ≡ Some row

-- what lists the wires of the first track, and no pins: no pin that the wire meets is two columns
-- to the right of it
abbrev pub step_view : Node → View
step_view wire = record { track = 0; node = node_at_offset 2 wire }

-- no wire
abbrev pub NO_CLASS : ℕ
NO_CLASS = 2 ^ 16 - 1

-- at most the number of places in the first columns and in the last one
abbrev pub most_rows : Basis → ℕ → ℕ
most_rows basis count = min count (5 * stride_of basis) + (count - (basis.strip.width + 2) * stride_of basis)

-- for each of the first places that is a wire's, the row of its class has the steps of its first
-- wire; the other places have no class
pub record AreStepsBelow (basis : Basis) (count : ℕ) (steps : Steps) : Type 0 where
  pub long : length steps.classes.items ≡ place_count basis
  pub few : length steps.rows ≤ most_rows basis count
  pub wires : (place first : ℕ) → place < count → IsFirstAt basis place first →
      slice_get steps.rows (slice_index steps.classes.items place) ≡ Some (row_of basis (step_view ((graph_of basis).node first)) first)
  pub others : (place : ℕ) → place < place_count basis → ((first : ℕ) → IsFirstAt basis place first → ⊥) → slice_index steps.classes.items place ≡ NO_CLASS

abbrev pub AreSteps : Basis → Steps → Type 0
AreSteps basis steps = AreStepsBelow basis (place_count basis) steps
