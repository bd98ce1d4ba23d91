-- The lines of an input, as they are read and as they are cut.
use Rattle.live_input.proofs.Prelude.{◌≡◌, ℕ, zero, suc, ◌+◌, List, [], ◌∷◌, ◌++◌, Bool, true, false, not, ◌&&◌, cond, eqb, map, take, drop, None, refl, sym, ap, ◌∙◌, append-nil, append_assoc, flat_map, list_all, onto_first, position_or_len, physical_lines, is_one_line, kept_of, ended_lines, onto_line, items_from, items_of, items_to_come, with_feed, is_of, rest_of, tag_of, told_to, both, is_line, line_then, said_by, kept_input, kept_lines}

-- lines with their ends are those lines
lines_back : (lines : List (List ℕ)) → list_all is_line lines ≡ true → physical_lines (flat_map with_feed lines) ≡ lines
lines_back [] are = refl
lines_back (line ∷ lines) are =
    let parts = both (is_line line) (list_all is_line lines) are in
    ap physical_lines (append_assoc line (10 ∷ []) (flat_map with_feed lines))
    ∙ (line_then line (flat_map with_feed lines) parts.0 ∙ ap (λ ls. line ∷ ls) (lines_back lines parts.1))

-- the lines of a text are lines
onto_ended : (x : ℕ) (lines : List (List ℕ)) → eqb x 10 ≡ false → list_all is_line lines ≡ true → list_all is_line (onto_line x lines) ≡ true
onto_ended x [] other are = refl
onto_ended x (line ∷ lines) other are = ap (λ b. (not b && is_line line) && list_all is_line lines) other ∙ are

are_ended : (text : List ℕ) → list_all is_line (ended_lines text) ≡ true
are_ended [] = refl
are_ended (x ∷ rest) =
    elim (eqb x 10) as (λ b. eqb x 10 ≡ b → list_all is_line (cond b ([] ∷ ended_lines rest) (onto_line x (ended_lines rest))) ≡ true) [
      | true ↦ λ e. are_ended rest
      | false ↦ λ e. onto_ended x (ended_lines rest) e (are_ended rest)
    ] refl

-- a part of a line is a line
take_line : (n : ℕ) (line : List ℕ) → is_line line ≡ true → is_line (take n line) ≡ true
take_line zero line is = refl
take_line (suc n) [] is = refl
take_line (suc n) (x ∷ line) is = let parts = both (not (eqb x 10)) (is_line line) is in ap (λ b. b && is_line (take n line)) parts.0 ∙ take_line n line parts.1

drop_line : (n : ℕ) (line : List ℕ) → is_line line ≡ true → is_line (drop n line) ≡ true
drop_line zero line is = is
drop_line (suc n) [] is = refl
drop_line (suc n) (x ∷ line) is = let parts = both (not (eqb x 10)) (is_line line) is in drop_line n line parts.1

kept_line : (line : List ℕ) → is_line line ≡ true → is_line (kept_of line) ≡ true
unfolding kept_of
kept_line line is = take_line 1048640 line is

are_kept : (lines : List (List ℕ)) → list_all is_line lines ≡ true → list_all is_line (map kept_of lines) ≡ true
are_kept [] are = refl
are_kept (line ∷ lines) are =
    let parts = both (is_line line) (list_all is_line lines) are in
    ap (λ b. b && list_all is_line (map kept_of lines)) (kept_line line parts.0) ∙ are_kept lines parts.1

-- what a name's lines say is those lines again
told_lines : (owner : List ℕ) (lines : List (List ℕ)) → flat_map (λ line. cond (is_of owner (tag_of line)) (with_feed (rest_of line)) []) lines ≡ flat_map with_feed (flat_map (λ line. cond (is_of owner (tag_of line)) (rest_of line ∷ []) []) lines)
told_lines owner [] = refl
told_lines owner (line ∷ lines) =
    elim (is_of owner (tag_of line)) as (λ b. cond b (with_feed (rest_of line)) [] ++ flat_map (λ line. cond (is_of owner (tag_of line)) (with_feed (rest_of line)) []) lines
    ≡ flat_map with_feed (cond b (rest_of line ∷ []) [] ++ flat_map (λ line. cond (is_of owner (tag_of line)) (rest_of line ∷ []) []) lines)) [
      | true ↦ ap (λ bytes. with_feed (rest_of line) ++ bytes) (told_lines owner lines)
      | false ↦ told_lines owner lines
    ]

said_lines : (name : List ℕ) (lines : List (List ℕ)) → list_all is_line lines ≡ true → list_all is_line (said_by name lines) ≡ true
said_lines name [] are = refl
said_lines name (line ∷ lines) are =
    let parts = both (is_line line) (list_all is_line lines) are in
    let rest : is_line (rest_of line) ≡ true = drop_line (position_or_len (λ byte. eqb byte 32) line + 1) line parts.0 in
    elim (is_of (64 ∷ name) (tag_of line)) as (λ b. list_all is_line (cond b (rest_of line ∷ []) [] ++ said_by name lines) ≡ true) [
      | true ↦ ap (λ b. b && list_all is_line (said_by name lines)) rest ∙ said_lines name lines parts.1
      | false ↦ said_lines name lines parts.1
    ]

pub items_said : (name input : List ℕ) → items_of (told_to (64 ∷ name) (kept_input input)) ≡ items_to_come None (said_by name (kept_lines input))
items_said name input =
    let lines = kept_lines input in
    let are = are_kept (ended_lines input) (are_ended input) in
    ap (λ ls. items_of (flat_map (λ line. cond (is_of (64 ∷ name) (tag_of line)) (with_feed (rest_of line)) []) ls)) (lines_back lines are)
    ∙ (ap items_of (told_lines (64 ∷ name) lines)
    ∙ ap (items_from false) (lines_back (said_by name lines) (said_lines name lines are)))
