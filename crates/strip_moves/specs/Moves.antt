-- Moves of strips that are accepted one after another.
use Rattle.std.specs.Prelude.{ℕ, ◌≡◌, ◌<◌, List, [], ◌∷◌, All}
use Rattle.strips.specs.Plan.{IsParted, Plan, with_moved}
use Rattle.device_report.specs.Widest.{IsWidest}
use Rattle.strip_moves.specs.declared.joining.Joining.{Joining}
use Rattle.strip_moves.specs.declared.joining.StripMove.{StripMove}

-- private: that move is accepted on the old plan, and leads to the new one
abbrev pub IsMoved : Plan → Plan → StripMove → Type 0
IsMoved old new move = IsParted (with_moved old move.id move.offset) × (new ≡ with_moved old move.id move.offset)

-- each move is accepted on the plan that those before it lead to, and all lead to that plan
abbrev pub AreAccepted : Plan → List StripMove → Plan → Type 0
AreAccepted plan [] after = plan ≡ after
AreAccepted plan (move ∷ moves) after = IsParted (with_moved plan move.id move.offset) × AreAccepted (with_moved plan move.id move.offset) moves after

-- no move of that strip to an offset below that one is accepted
abbrev pub CannotMove : Plan → ℕ → ℕ → Type 0
CannotMove plan id below = (offset : ℕ) → offset < below → IsParted (with_moved plan id offset) → ⊥

-- no strip can go further to the left
abbrev pub AreLeftmost : Plan → Type 0
AreLeftmost plan = All (λ strip. CannotMove plan strip.id strip.offset) plan.strips

-- the moves are accepted one after another; after them no strip can go further to the left, and the
-- room is the widest
abbrev pub IsJoining : Plan → Joining → Type 0
IsJoining plan joining = (after : Plan) × AreAccepted plan joining.moves.items after × AreLeftmost after × IsWidest after joining.widest
