-- Lines that are kept one after another, each ended by LF.
use Rattle.live_machine.proofs.Prelude.{◌≡◌, ℕ, ◌<◌, length, arith, List, [], ◌∷◌, ◌++◌, true, false, not, ◌&&◌, eqb, refl, ap, ◌∙◌, append-nil, append_assoc, flat_map, list_all, flat_map-append, is_one_line, physical_lines, with_feed, are_lines, both, is_line, line_then, IsFed, is_wait_item}

to_line : (line : List ℕ) → is_one_line line ≡ true → is_line line ≡ true
to_line [] one = refl
to_line (x ∷ line) one = let parts = both (not (eqb x 10)) (is_one_line line) one in ap (λ b. b && is_line line) parts.0 ∙ to_line line parts.1

-- lines with their ends are those lines
lines_then : (lines : List (List ℕ)) (more : List ℕ) → list_all is_line lines ≡ true → physical_lines (flat_map with_feed lines ++ more) ≡ lines ++ physical_lines more
lines_then [] more are = refl
lines_then (line ∷ lines) more are =
    let parts = both (is_line line) (list_all is_line lines) are in
    ap physical_lines (append_assoc (line ++ 10 ∷ []) (flat_map with_feed lines) more ∙ append_assoc line (10 ∷ []) (flat_map with_feed lines ++ more))
    ∙ (line_then line (flat_map with_feed lines ++ more) parts.0 ∙ ap (λ ls. line ∷ ls) (lines_then lines more parts.1))

-- one more line
pub lines_more : (bytes line : List ℕ) → IsFed bytes → is_one_line line ≡ true → physical_lines (bytes ++ with_feed line) ≡ physical_lines bytes ++ line ∷ []
lines_more bytes line fed one = grind (arith, lines_then, are_lines, line_then)

pub fed_more : (bytes line : List ℕ) → IsFed bytes → is_one_line line ≡ true → IsFed (bytes ++ with_feed line)
fed_more bytes line fed one = grind (arith, append-nil, flat_map-append, lines_more)

pub no_wait : (line text : List ℕ) → 0 < length text → is_wait_item (line ∷ physical_lines text) ≡ false
no_wait line [] some = absurd (omega arith)
no_wait line (x ∷ text) some = grind arith
