-- Runs of a netlist with pins.
use Rattle.one_user.proofs.Prelude.{ℕ, ◌≡◌, ◌+◌, ◌<◌, ◌≤◌, inl, inr, List, Result, Ok, IfOk, sym, subst, ◌∙◌, arith, cases_eq, arch_of, Arch, Basis, Node, PlacingUnderWay, device_strip, AreTooFewBelow, IsLeftWith, IsPinnedWith, IsWholeRun, EndsWith, IsRunWith, IsFirstTry, Request, DevicePlan, FirstTry, Run}
use Rattle.pin_file.specs.PinFiles.{Pin}
use Rattle.one_user.proofs.OtherTracks.{strip_is}

-- a run with routes is a whole run
pub routed_whole : {E : Type 0} (basis : Basis) (placed : PlacingUnderWay) (routes : List (List (List Node))) (number : ℕ) (made : Result Run E) → EndsWith basis placed routes number → IfOk made (IsRunWith basis placed routes number) → IfOk made (IsWholeRun basis placed)
routed_whole basis placed routes number made ends is = grind arith

-- the pinned placing is on the strip of each device of the plan
pub same_strip : (plan : DevicePlan) (request : Request) (pins : List Pin) (tracks : ℕ) (arch : Arch) (placed : PlacingUnderWay) → arch_of plan.text.now tracks ≡ Ok arch → IsPinnedWith plan request pins placed → placed.strip ≡ device_strip arch plan.columns plan.rows
same_strip plan request pins tracks arch placed is pinned = pinned.pinned.strip ∙ strip_is plan request tracks arch is pinned.free pinned.first

-- before the first try
pub none_tried : (plan : DevicePlan) (placed : PlacingUnderWay) (first : FirstTry) → IsFirstTry plan placed first → AreTooFewBelow plan placed first.tracks
none_tried plan placed first is = record { first = first; is_first = is; tried = λ tracks from below. absurd (omega (arith, from, below)) }

-- after one more try
pub one_tried : (plan : DevicePlan) (placed : PlacingUnderWay) (tracks : ℕ) → AreTooFewBelow plan placed tracks → IsLeftWith plan placed tracks → AreTooFewBelow plan placed (tracks + 1)
one_tried plan placed tracks before left = record {
  first = before.first;
  is_first = before.is_first;
  tried = λ other from below. elim (cases_eq other tracks) [
    | inl same ↦ subst (IsLeftWith plan placed) (sym same) left
    | inr differs ↦ before.tried other from (omega (arith, below, differs))
  ];
}

-- numbers below a lesser limit
pub whole_limit : (plan : DevicePlan) (placed : PlacingUnderWay) (limit lesser : ℕ) → lesser ≤ limit → AreTooFewBelow plan placed limit → AreTooFewBelow plan placed lesser
whole_limit plan placed limit lesser le below = record { first = below.first; is_first = below.is_first; tried = λ tracks from less. below.tried tracks from (omega (arith, less, le)) }
