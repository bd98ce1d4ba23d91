-- A netlist that is packed and placed, stage by stage.
use Rattle.std.specs.Prelude.{ℕ, ◌≡◌, ◌<◌, ◌≤◌, true, false, [], Result, Ok, Err, Some, None}
use Rattle.one_user.specs.Prelude.{Arch, circuit_of, Circuit, fit_of, PackedCircuit, packed_of, unfit_of, Strip, pass_count, placing_at, PlacingUnderWay, is_past_last, MAX_PASSES, misfit_of, Misfit, DoesNotFit}
use Rattle.one_user.specs.Outcomes.{Task, outcome_of, placing_of}
use Rattle.one_user.specs.declared.outcome.FlowOutcome.TheVariants.{Refused as RefusedOutcome}
use Rattle.one_user.specs.declared.placing.PlacingEnd.{PlacingEnd}
use Rattle.one_user.specs.declared.placing.PlacingEnd.TheVariants.{Placed, Refused}

-- the packed circuit, or a BLE that fits into no cluster
abbrev pub IsPackedFrom : Circuit → Arch → Result PackedCircuit ℕ → Type 0
IsPackedFrom circuit arch (Ok packed) = (unfit_of circuit arch ≡ None) × (packed ≡ packed_of circuit arch)
IsPackedFrom circuit arch (Err ble) = unfit_of circuit arch ≡ Some ble

-- that number of passes is all: the last of them is the pass at temperature 0
pub record AreAllPasses (strip : Strip) (passes : ℕ) : Type 0 where
  pub few : passes ≤ MAX_PASSES
  pub is_past : is_past_last strip passes ≡ true
  pub before : (fewer : ℕ) → fewer < passes → is_past_last strip fewer ≡ false

-- a placing without kept places, after its last pass
abbrev pub placed_from : Strip → PackedCircuit → ℕ → ℕ → PlacingUnderWay
placed_from strip packed seed effort = record { packed = packed; strip = strip; kept = []; seed = seed; effort = effort; passes = pass_count strip }

-- it is placed, or the strip has too few places
abbrev pub IsPlacedFrom : Strip → PackedCircuit → ℕ → ℕ → PlacingEnd → Type 0
IsPlacedFrom strip packed seed effort (Placed placing) =
    (misfit_of (fit_of strip packed) ≡ None) × (placing ≡ placed_from strip packed seed effort) × AreAllPasses strip (pass_count strip)
IsPlacedFrom strip packed seed effort (Refused refusal) = (misfit : Misfit) × (refusal ≡ DoesNotFit misfit) × (misfit_of (fit_of strip packed) ≡ Some misfit)

-- the circuit of the task's netlist, packed and placed
pub record IsPlacing (task : Task) (placing : PlacingUnderWay) : Type 0 where
  pub circuit : Circuit
  pub said : circuit_of task.text task.arch.lut_size ≡ Ok circuit
  pub fits : unfit_of circuit task.arch ≡ None
  pub enough : misfit_of (fit_of task.strip (packed_of circuit task.arch)) ≡ None
  pub is : placing ≡ placing_at (placing_of task) circuit (pass_count task.strip)
  pub all : AreAllPasses task.strip (pass_count task.strip)

-- it is placed, or refused
abbrev pub IsPlacingOf : Task → PlacingEnd → Type 0
IsPlacingOf task (Placed placing) = IsPlacing task placing
IsPlacingOf task (Refused refusal) = outcome_of task ≡ RefusedOutcome refusal
