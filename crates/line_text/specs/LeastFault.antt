-- The least of all faults of a text, ordered by line, number and word; faults of the end come last.
use Rattle.std.specs.Prelude.{ℕ, ◌==◌, nat_lt, nat_le, Bool, ◌&&◌, ◌||◌, List, [], ◌∷◌, Option, Some, None, option_map, if◌then◌else◌}
use Rattle.std.specs.Option.{option_map_or}

-- a fault and what orders it: whether it is found only at the end of the text, its line number, the
-- number of its kind, and the index of its word, 0 if the whole line is at fault
pub record Found (F : Type 0) : Type 0 where
  pub at_end : Bool
  pub line : ℕ
  pub number : ℕ
  pub word : ℕ
  pub fault : F

-- ordered by two numbers, and by the next criterion if they are equal
abbrev pub by_number : ℕ → ℕ → Bool → Bool
by_number first second next = nat_lt first second || (first == second && next)

-- a fault comes before another one, or has the same word, line and number; faults of the end come
-- after those of all lines
abbrev pub precedes : {F : Type 0} → Found F → Found F → Bool
precedes first second =
    by_number (if first.at_end then 1 else 0) (if second.at_end then 1 else 0)
    (by_number first.line second.line (by_number first.number second.number (nat_le first.word second.word)))

-- the least element by this test
abbrev pub least_by : {X : Type 0} → (X → X → Bool) → List X → Option X
least_by comes_before [] = None
least_by comes_before (x ∷ xs) = Some (option_map_or (λ y. if comes_before x y then x else y) (least_by comes_before xs) x)

-- the least of all faults
abbrev pub least_fault : {F : Type 0} → List (Found F) → Option F
least_fault all = option_map (λ found. found.fault) (least_by precedes all)
