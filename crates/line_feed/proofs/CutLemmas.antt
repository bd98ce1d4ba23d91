-- A line that is cut, and more bytes of it.
use Rattle.std.proofs.Common.{◌≡◌, ℕ, ◌+◌, ◌-◌, ◌≤◌, nat_le, true, false, List, [], ◌++◌, length, take, refl, sym, ap, ◌∙◌, arith, append-nil}
use Rattle.std.proofs.lemmas.Bool.Decides.{nat_tests}
use Rattle.std.proofs.lemmas.List.{length-take, take-append-le, take_all}
use Rattle.std.proofs.Math.Seq.{take-append-add}
use Rattle.line_feed.specs.Pieces.{kept_of}

-- what is kept of no bytes
pub kept_none : kept_of [] ≡ []
unfolding kept_of
kept_none = refl

-- a line that has that many bytes takes no more
full : (n : ℕ) (line more : List ℕ) → n ≤ length line → take n line ++ take (n - length (take n line)) more ≡ take n (line ++ more)
full n line more past =
    let none : n - length (take n line) ≡ 0 = omega (arith, length-take n line) in
    ap (λ k. take n line ++ take k more) none ∙ (append-nil (take n line) ∙ sym (take-append-le n line more past))

-- a line that has fewer takes more
more_fit : (n : ℕ) (line more : List ℕ) → length line ≤ n → take n line ++ take (n - length (take n line)) more ≡ take n (line ++ more)
more_fit n line more fits =
    let own : take n line ≡ line = take_all n line fits in
    let sum : length line + (n - length line) ≡ n = omega arith in
    ap (λ l. l ++ take (n - length l) more) own ∙ (sym (take-append-add line more (n - length line)) ∙ ap (λ k. take k (line ++ more)) sum)

cut_more : (n : ℕ) (line more : List ℕ) → take n line ++ take (n - length (take n line)) more ≡ take n (line ++ more)
cut_more n line more =
    elim (nat_le n (length line)) as (λ b. nat_le n (length line) ≡ b → take n line ++ take (n - length (take n line)) more ≡ take n (line ++ more)) [
      | true ↦ λ e. full n line more (grind (arith, nat_tests, e))
      | false ↦ λ e. more_fit n line more (grind (arith, nat_tests, e))
    ] refl

-- the first bytes are what is kept
pub kept_part : (line part : List ℕ) → part ≡ take 1048640 line → part ≡ kept_of line
unfolding kept_of
kept_part line part is = is

-- what is kept of a line that has more bytes
pub kept_more : (kept line more : List ℕ) → kept ≡ kept_of line → kept ++ take (1048640 - length kept) more ≡ kept_of (line ++ more)
unfolding kept_of
kept_more kept line more is = ap (λ k. k ++ take (1048640 - length k) more) is ∙ cut_more 1048640 line more
