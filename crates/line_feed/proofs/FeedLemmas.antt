-- A line that is read in pieces.
use Rattle.std.proofs.Common.{◌≡◌, ℕ, suc, ◌+◌, ◌-◌, ◌<◌, ◌≤◌, nat_lt, position, List, [], ◌∷◌, ◌++◌, length, take, drop, Bool, true, false, not, ◌&&◌, cond, eqb, Some, None, refl, sym, ap, ◌∙◌, arith}
use Rattle.std.specs.List.{position_or_len}
use Rattle.std.proofs.lemmas.Bool.{eqb-true}
use Rattle.std.proofs.lemmas.Bool.Decides.{nat_tests}
use Rattle.std.proofs.lemmas.List.{drop-drop, drop-take, length-take, take_all}
use Rattle.line_feed.specs.Pieces.{IsKept, TakesPiece, is_one_line}

abbrev is_end : ℕ → Bool
is_end byte = eqb byte 10

abbrev end_of : List ℕ → ℕ
end_of bytes = position_or_len is_end bytes

take_next : (n x : ℕ) (xs : List ℕ) → take (1 + n) (x ∷ xs) ≡ x ∷ take n xs
take_next n x xs = let e : 1 + n ≡ suc n = omega arith in ap (λ m. take m (x ∷ xs)) e

drop_two : (n x : ℕ) (xs : List ℕ) → drop (1 + n + 1) (x ∷ xs) ≡ drop (n + 1) xs
drop_two n x xs = let e : 1 + n + 1 ≡ suc (n + 1) = omega arith in ap (λ m. drop m (x ∷ xs)) e

-- no byte before the first LF ends a line
pub piece_one : (bytes : List ℕ) → is_one_line (take (end_of bytes) bytes) ≡ true
piece_one [] = refl
piece_one (x ∷ xs) =
    elim (is_end x) as (λ b. is_end x ≡ b → is_one_line (take (cond (not b) (1 + end_of xs) 0) (x ∷ xs)) ≡ true) [
      | true ↦ λ e. refl
      | false ↦ λ e. ap is_one_line (take_next (end_of xs) x xs) ∙ (ap (λ b. not b && is_one_line (take (end_of xs) xs)) e ∙ piece_one xs)
    ] refl

-- the bytes are those before it, it, and those behind it
pub piece_ended : (bytes : List ℕ) → end_of bytes < length bytes → bytes ≡ take (end_of bytes) bytes ++ 10 ∷ drop (end_of bytes + 1) bytes
piece_ended [] inside = absurd (omega arith)
piece_ended (x ∷ xs) inside =
    elim (is_end x) as (λ b. is_end x ≡ b → cond (not b) (1 + end_of xs) 0 < suc (length xs) → x ∷ xs ≡ take (cond (not b) (1 + end_of xs) 0) (x ∷ xs) ++ 10 ∷ drop (cond (not b) (1 + end_of xs) 0 + 1) (x ∷ xs)) [
      | true ↦ λ e h. ap (λ b. b ∷ xs) (eqb-true x 10 e)
      | false ↦ λ e h.
          ap (λ l. x ∷ l) (piece_ended xs (omega arith))
          ∙ (ap (λ l. l ++ 10 ∷ drop (end_of xs + 1) xs) (sym (take_next (end_of xs) x xs))
          ∙ ap (λ l. take (1 + end_of xs) (x ∷ xs) ++ 10 ∷ l) (sym (drop_two (end_of xs) x xs)))
    ] refl inside

-- bytes without LF, and a place of the first one
no_end : (bytes : List ℕ) → position is_end bytes ≡ None → is_one_line bytes ≡ true
no_end bytes e =
    elim (nat_lt (end_of bytes) (length bytes)) as (λ b. nat_lt (end_of bytes) (length bytes) ≡ b → cond b (Some (end_of bytes)) None ≡ None → is_one_line bytes ≡ true) [
      | true ↦ λ t n. absurd (cc)
      | false ↦ λ t n.
          let past : length bytes ≤ end_of bytes = grind (arith, nat_tests, t) in
          ap is_one_line (sym (take_all (end_of bytes) bytes past)) ∙ piece_one bytes
    ] refl e

first_end : (bytes : List ℕ) (place : ℕ) → position is_end bytes ≡ Some place → (end_of bytes ≡ place) × (place < length bytes)
first_end bytes place e =
    elim (nat_lt (end_of bytes) (length bytes)) as (λ b. nat_lt (end_of bytes) (length bytes) ≡ b → cond b (Some (end_of bytes)) None ≡ Some place → (end_of bytes ≡ place) × (place < length bytes)) [
      | true ↦ λ t n.
          let same : end_of bytes ≡ place = cc in
          let inside : end_of bytes < length bytes = grind (arith, nat_tests, t) in
          (same, omega arith)
      | false ↦ λ t n. absurd (cc)
    ] refl e

-- all that was ahead is taken
pub takes_all : (items now old : List ℕ) (at last : ℕ) (before after : List ℕ) → old ≡ take (last - at) (drop at items) → now ≡ items → position is_end (take (last - at) (drop at now)) ≡ None →
    ((line : List ℕ) → IsKept before line → IsKept after (line ++ take (last - at) (drop at now))) → TakesPiece old before false (take (last - last) (drop last items)) after
takes_all items now old at last before after is same none kept =
    let zero : last - last ≡ 0 = omega arith in
    record {
      piece = take (last - at) (drop at now);
      one = no_end (take (last - at) (drop at now)) none;
      kept = kept;
      rest = (is ∙ ap (λ xs. take (last - at) (drop at xs)) (sym same), ap (λ n. take n (drop last items)) zero);
    }

behind_place : (items : List ℕ) (at last place : ℕ) → place + 1 ≤ last - at → drop (place + 1) (take (last - at) (drop at items)) ≡ take (last - (at + (place + 1))) (drop (at + (place + 1)) items)
behind_place items at last place inside =
    let all : last - at ≡ (place + 1) + (last - (at + (place + 1))) = omega arith in
    ap (λ n. drop (place + 1) (take n (drop at items))) all
    ∙ (drop-take (place + 1) (last - (at + (place + 1))) (drop at items)
    ∙ ap (take (last - (at + (place + 1)))) (drop-drop (place + 1) at items))

-- what was ahead is taken up to the first LF
pub takes_ended : (items now old : List ℕ) (at last place : ℕ) (before after : List ℕ) → old ≡ take (last - at) (drop at items) → now ≡ items → position is_end (take (last - at) (drop at now)) ≡ Some place →
    ((line : List ℕ) → IsKept before line → IsKept after (line ++ take place (take (last - at) (drop at now)))) → TakesPiece old before true (take (last - (at + (place + 1))) (drop (at + (place + 1)) items)) after
takes_ended items now old at last place before after is same found kept =
    let bytes = take (last - at) (drop at now) in
    let first = first_end bytes place found in
    let inside : place + 1 ≤ last - at = (let w = first.1 in omega (arith, length-take (last - at) (drop at now))) in
    let own : take (last - at) (drop at items) ≡ bytes = ap (λ xs. take (last - at) (drop at xs)) (sym same) in
    let whole : bytes ≡ take (end_of bytes) bytes ++ 10 ∷ drop (end_of bytes + 1) bytes = piece_ended bytes (let f = first.0 in let w = first.1 in omega arith) in
    let at_place : bytes ≡ take place bytes ++ 10 ∷ drop (place + 1) bytes = whole ∙ ap (λ n. take n bytes ++ 10 ∷ drop (n + 1) bytes) first.0 in
    record {
      piece = take place bytes;
      one = ap (λ n. is_one_line (take n bytes)) (sym first.0) ∙ piece_one bytes;
      kept = kept;
      rest = is ∙ (own ∙ (at_place ∙ ap (λ r. take place bytes ++ 10 ∷ r) (ap (drop (place + 1)) (sym own) ∙ behind_place items at last place inside)));
    }
