-- Things that are read line by line.
use Rattle.std.specs.Prelude.{ℕ, ◌≡◌, ◌+◌, ◌++◌, Bool, true, false, List, [], ◌∷◌, ⊤}

-- each of the lines is that of one of the things, in order; the first one has this number
abbrev pub AreEachFrom : {X Y : Type 0} → (ℕ → X → Y → Type 0) → ℕ → List X → List Y → Type 0
AreEachFrom is_line number [] [] = ⊤
AreEachFrom is_line number [] (thing ∷ others) = ⊥
AreEachFrom is_line number (line ∷ lines) [] = ⊥
AreEachFrom is_line number (line ∷ lines) (thing ∷ others) = is_line number line thing × AreEachFrom is_line (number + 1) lines others

-- private: there is one thing more after a line of one, and otherwise nothing new
abbrev pub AddsNext : {Y : Type 0} → Bool → (Y → Type 0) → List Y → List Y → Type 0
AddsNext {Y} true is_next old new = (thing : Y) × (new ≡ old ++ thing ∷ []) × is_next thing
AddsNext {Y} false is_next old new = new ≡ old
