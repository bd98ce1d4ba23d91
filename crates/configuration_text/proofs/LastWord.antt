-- The last word of a line.
use Rattle.configuration_text.proofs.Prelude.{◌≡◌, ℕ, ◌-◌, ◌<◌, List, [], ◌∷◌, length, get_or, refl, arith, Bor, last_of, texts}

last_of-cons : (slices : List (Bor (List ℕ))) (slice d : Bor (List ℕ)) → last_of (texts (slice ∷ slices)) ≡ (get_or (slice ∷ slices) (length slices) d).now
last_of-cons [] slice d = refl
last_of-cons (next ∷ slices) slice d = last_of-cons slices next d

pub last_of-texts : (slices : List (Bor (List ℕ))) (d : Bor (List ℕ)) → 0 < length slices → last_of (texts slices) ≡ (get_or slices (length slices - 1) d).now
last_of-texts [] d h = absurd (omega (arith, h))
last_of-texts (slice ∷ slices) d h =
    let e : length (slice ∷ slices) - 1 ≡ length slices = omega arith in
    rw e (last_of-cons slices slice d)
