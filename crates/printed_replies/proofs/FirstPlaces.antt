-- The first position of a byte, as a search finds it.
use Rattle.printed_replies.proofs.Prelude.{◌≡◌, ℕ, zero, suc, ◌+◌, ◌<◌, Bool, true, false, not, cond, List, [], ◌∷◌, Option, length, position, slice_index, refl, ap, arith, position_or_len, IsFirstByte}

place_of : (test : ℕ → Bool) (bytes : List ℕ) (place : ℕ) → place < length bytes → test (slice_index bytes place) ≡ true → ((k : ℕ) → k < place → test (slice_index bytes k) ≡ true → ⊥) → position_or_len test bytes ≡ place
place_of test [] place inside passes before = absurd (omega arith)
place_of test (byte ∷ bytes) zero inside passes before = ap (λ b. cond (not b) (1 + position_or_len test bytes) 0) passes
place_of test (byte ∷ bytes) (suc place) inside passes before = by (test byte) refl (place_of test bytes place (omega arith) passes (λ k below. before (suc k) (omega arith)))
  where
    by : (b : Bool) → test byte ≡ b → position_or_len test bytes ≡ place → cond (not b) (1 + position_or_len test bytes) 0 ≡ suc place
    by true first rest = absurd (before 0 (omega arith) first)
    by false first rest = omega (arith, rest)

no_place : (test : ℕ → Bool) (bytes : List ℕ) → ((k : ℕ) → k < length bytes → test (slice_index bytes k) ≡ true → ⊥) → position_or_len test bytes ≡ length bytes
no_place test [] nowhere = refl
no_place test (byte ∷ bytes) nowhere = by (test byte) refl (no_place test bytes (λ k below. nowhere (suc k) (omega arith)))
  where
    by : (b : Bool) → test byte ≡ b → position_or_len test bytes ≡ length bytes → cond (not b) (1 + position_or_len test bytes) 0 ≡ length (byte ∷ bytes)
    by true first rest = absurd (nowhere 0 (omega arith) first)
    by false first rest = omega (arith, rest)

pub first_place : (test : ℕ → Bool) (bytes : List ℕ) (found : Option ℕ) → IsFirstByte test bytes found → found ≡ position test bytes
first_place test bytes found nowhere = grind (arith, no_place, place_of)
