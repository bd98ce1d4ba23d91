-- Places that are read line by line.
use Rattle.strip_files.proofs.Prelude.{ℕ, zero, suc, ◌≡◌, ◌+◌, ◌-◌, Bool, false, List, [], ◌∷◌, ◌++◌, drop, filter, length, ap, sym, subst, refl, arith, nat_lt, nat_tests, Place, AddsNext, AreEachFrom, IsLineOfPlace, has_place, is_place_line}
use Rattle.strip_files.proofs.Nets.{each_step}

-- a line with this number of lines before it, and the places of the lines after it
pub place_step : (before : ℕ) (line : List ℕ) (lines : List (List ℕ)) (old new more : List (List ℕ × Place)) → AddsNext (has_place before line) (IsLineOfPlace (length old) line) old new
    → AreEachFrom IsLineOfPlace (length new) (filter is_place_line (drop (2 - (before + 1)) lines)) more
    → (rest : List (List ℕ × Place)) × AreEachFrom IsLineOfPlace (length old) (filter is_place_line (drop (2 - before) (line ∷ lines))) rest × (new ++ more ≡ old ++ rest)
place_step zero line lines old new more same h = (more, rw (← same) h, ap (λ (xs : List (List ℕ × Place)). xs ++ more) same)
place_step (suc zero) line lines old new more same h = (more, rw (← same) h, ap (λ (xs : List (List ℕ × Place)). xs ++ more) same)
place_step (suc (suc n)) line lines old new more adds h =
    let more_than_two : nat_lt (suc (suc n)) 2 ≡ false = grind (arith, nat_tests) in
    let all : 2 - (suc (suc n) + 1) ≡ 0 = omega arith in
    let same : has_place (suc (suc n)) line ≡ is_place_line line = rw (more_than_two) refl in
    let none : 2 - suc (suc n) ≡ 0 = omega arith in
    subst (λ (k : ℕ). (rest : List (List ℕ × Place)) × AreEachFrom IsLineOfPlace (length old) (filter is_place_line (drop k (line ∷ lines))) rest × (new ++ more ≡ old ++ rest)) (sym none)
    (each_step IsLineOfPlace is_place_line line lines old new more (subst (λ (b : Bool). AddsNext b (IsLineOfPlace (length old) line) old new) same adds)
    (subst (λ (k : ℕ). AreEachFrom IsLineOfPlace (length new) (filter is_place_line (drop k lines)) more) all h))

-- no line, no place
pub no_place : (number k : ℕ) → AreEachFrom IsLineOfPlace number (filter is_place_line (drop k [])) []
no_place number zero = tt
no_place number (suc k) = tt
