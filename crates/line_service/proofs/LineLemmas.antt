-- Lines, as they are separated in a text.
use Rattle.line_service.proofs.Prelude.{◌≡◌, ℕ, suc, length, take, arith, List, [], ◌∷◌, ◌++◌, Bool, true, false, not, ◌&&◌, cond, eqb, refl, ap, ◌∙◌, append_assoc, flat_map, list_all, is_one_line, kept_of, with_feed, both, ended_lines, onto_line}

pub not_false : (a : Bool) → not a ≡ true → a ≡ false
not_false a e = grind arith

-- a line, and those after its end
ended_line : (line rest : List ℕ) → is_one_line line ≡ true → ended_lines (line ++ 10 ∷ rest) ≡ line ∷ ended_lines rest
ended_line [] rest one = refl
ended_line (x ∷ line) rest one =
    let parts = both (not (eqb x 10)) (is_one_line line) one in
    ap (λ b. cond b ([] ∷ ended_lines (line ++ 10 ∷ rest)) (onto_line x (ended_lines (line ++ 10 ∷ rest)))) (not_false (eqb x 10) parts.0)
    ∙ ap (onto_line x) (ended_line line rest parts.1)

-- what has no end is no line
pub none_ended : (line : List ℕ) → is_one_line line ≡ true → ended_lines line ≡ []
none_ended [] one = refl
none_ended (x ∷ line) one =
    let parts = both (not (eqb x 10)) (is_one_line line) one in
    ap (λ b. cond b ([] ∷ ended_lines line) (onto_line x (ended_lines line))) (not_false (eqb x 10) parts.0)
    ∙ ap (onto_line x) (none_ended line parts.1)

-- lines with their ends are those lines
pub ended_then : (lines : List (List ℕ)) (more : List ℕ) → list_all is_one_line lines ≡ true → ended_lines (flat_map with_feed lines ++ more) ≡ lines ++ ended_lines more
ended_then [] more are = refl
ended_then (line ∷ lines) more are =
    let parts = both (is_one_line line) (list_all is_one_line lines) are in
    ap ended_lines (append_assoc (line ++ 10 ∷ []) (flat_map with_feed lines) more ∙ append_assoc line (10 ∷ []) (flat_map with_feed lines ++ more))
    ∙ (ended_line line (flat_map with_feed lines ++ more) parts.0 ∙ ap (λ ls. line ∷ ls) (ended_then lines more parts.1))

and_more : (p q r : Bool) → p && q ≡ true → (q ≡ true → r ≡ true) → p && r ≡ true
and_more p q r h1 more = grind arith

pub both_lines : (a b : List ℕ) → is_one_line a ≡ true → is_one_line b ≡ true → is_one_line (a ++ b) ≡ true
both_lines [] b first second = second
both_lines (x ∷ a) b first second = and_more (not (eqb x 10)) (is_one_line a) (is_one_line (a ++ b)) first (λ e. both_lines a b e second)

pub lines_push : (lines : List (List ℕ)) (line : List ℕ) → list_all is_one_line lines ≡ true → is_one_line line ≡ true → list_all is_one_line (lines ++ line ∷ []) ≡ true
lines_push [] line are is = ap (λ b. b && true) is
lines_push (x ∷ lines) line are is = let parts = both (is_one_line x) (list_all is_one_line lines) are in ap (λ b. b && list_all is_one_line (lines ++ line ∷ [])) parts.0 ∙ lines_push lines line parts.1 is
