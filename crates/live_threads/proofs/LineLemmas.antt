-- The bytes that are kept of a line.
use Rattle.live_threads.proofs.Prelude.{◌≡◌, ◌⊎◌, ℕ, ◌≤◌, ◌<◌, List, [], ◌∷◌, length, map, take, true, false, refl, sym, ap, subst, ◌∙◌, arith, take_all, ◌==◌, list_all, onto_first, and_parts, physical_lines, is_one_line, kept_of, cut_lines, IsLine}
use Rattle.live_threads.proofs.FedLemmas.{cut_is_line}

onto_lines : (b : ℕ) (lines : List (List ℕ)) → (b == 10) ≡ false → list_all is_one_line lines ≡ true → list_all is_one_line (onto_first b lines) ≡ true
onto_lines b lines e all = grind arith

are_lines : (text : List ℕ) → list_all is_one_line (physical_lines text) ≡ true
are_lines [] = refl
are_lines (b ∷ rest) = grind (arith, are_lines rest)

pub kept_whole : (line : List ℕ) → length line ≤ 1048640 → line ≡ kept_of line
unfolding kept_of
kept_whole line short = sym (take_all 1048640 line short)

pub kept_part : (line part : List ℕ) → part ≡ take 1048640 line → part ≡ kept_of line
unfolding kept_of
kept_part line part is = is

-- the first line of what is left
pub line_left : (text first after kept : List ℕ) → physical_lines text ≡ first ∷ physical_lines after → kept ≡ kept_of first → cut_lines text ≡ kept ∷ cut_lines after
line_left text first after kept cut is = ap (map kept_of) cut ∙ ap (λ k. k ∷ cut_lines after) (sym is)

pub first_is_line : (text first after kept : List ℕ) → physical_lines text ≡ first ∷ physical_lines after → kept ≡ kept_of first → IsLine kept
first_is_line text first after kept cut is =
    let P : List (List ℕ) → Type 0 = λ ls. list_all is_one_line ls ≡ true in
    cut_is_line first kept is (and_parts (is_one_line first) (list_all is_one_line (physical_lines after)) (subst P cut (are_lines text))).0

pub kept_short : (line : List ℕ) → (1048640 < 0) ⊎ (length line < 1048640) → line ≡ kept_of line
kept_short line h1 = grind (arith, kept_whole)
