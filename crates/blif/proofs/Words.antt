-- Facts about the words of a line.
use Rattle.blif.proofs.Prelude.{◌≡◌, ℕ, ◌-◌, ◌<◌, List, [], ◌∷◌, length, get_or, refl, arith, take, Bor, texts, last_of, front_of, take-map, length-map}

last_of-cons : (slices : List (Bor (List ℕ))) (slice d : Bor (List ℕ)) → last_of (texts (slice ∷ slices)) ≡ (get_or (slice ∷ slices) (length slices) d).now
last_of-cons [] slice d = refl
last_of-cons (next ∷ slices) slice d = last_of-cons slices next d

pub last_of-texts : (slices : List (Bor (List ℕ))) (d : Bor (List ℕ)) → 0 < length slices → last_of (texts slices) ≡ (get_or slices (length slices - 1) d).now
last_of-texts [] d h = absurd (omega (arith, h))
last_of-texts (slice ∷ slices) d h =
    let e : length (slice ∷ slices) - 1 ≡ length slices = omega arith in
    rw e (last_of-cons slices slice d)

pub front_of-texts : (slices : List (Bor (List ℕ))) → front_of (texts slices) ≡ texts (take (length slices - 1) slices)
front_of-texts slices = simp length-map (take-map (λ (slice : Bor (List ℕ)). slice.now) (length slices - 1) slices)
