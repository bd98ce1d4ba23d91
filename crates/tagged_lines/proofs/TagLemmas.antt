-- Lines with a tag in front, told apart.
use Rattle.tagged_lines.proofs.Prelude.{◌≡◌, ℕ, suc, ◌+◌, ◌<◌, Bool, true, false, not, ◌&&◌, ◌||◌, cond, List, [], ◌∷◌, ◌++◌, length, take, drop, map, eqb, refl, sym, ap, ◌∙◌, arith, append-nil, append_assoc, onto_first, list_all, list_any, position_or_len, flat_map, bytes_eq, flat_map-append, bytes_eq-Decides, take-append_seam, physical_lines, Tagged, are_of, with_last_feed, with_feed, have_tags, is_of, is_tag, is_whole, output_of, rest_of, tag_of, tagged_text, told_in, told_to}

abbrev is_blank : ℕ → Bool
is_blank byte = eqb byte 32

-- no byte of the line ends it
abbrev pub is_line : List ℕ → Bool
is_line line = list_all (λ byte. not (eqb byte 10)) line

pub both : (a b : Bool) → a && b ≡ true → (a ≡ true) × (b ≡ true)
both a b e = grind arith

neither : (a b c : Bool) → (not a && not b) && c ≡ true → (a ≡ false) × (b ≡ false) × (c ≡ true)
neither a b c e = grind arith

not_false : (a : Bool) → not a ≡ true → a ≡ false
not_false a e = grind arith

-- the blank after a tag is the first one
first_blank : (tag line : List ℕ) → is_tag tag ≡ true → position_or_len is_blank (tag ++ 32 ∷ line) ≡ length tag
first_blank [] line ok = refl
first_blank (x ∷ tag) line ok =
    let parts = neither (eqb x 32) (eqb x 10) (is_tag tag) ok in
    let one : 1 + length tag ≡ suc (length tag) = omega arith in
    ap (λ b. cond (not b) (1 + position_or_len is_blank (tag ++ 32 ∷ line)) 0) parts.0
    ∙ (ap (λ n. 1 + n) (first_blank tag line parts.2) ∙ one)

past_seam : (tag line : List ℕ) → drop (length tag + 1) (tag ++ 32 ∷ line) ≡ line
past_seam [] line = refl
past_seam (x ∷ tag) line = grind (arith, past_seam tag line)

pub tag_is : (tag line : List ℕ) → is_tag tag ≡ true → tag_of (tag ++ 32 ∷ line) ≡ tag
tag_is tag line ok = ap (λ n. take n (tag ++ 32 ∷ line)) (first_blank tag line ok) ∙ take-append_seam tag (32 ∷ line)

pub rest_is : (tag line : List ℕ) → is_tag tag ≡ true → rest_of (tag ++ 32 ∷ line) ≡ line
rest_is tag line ok = ap (λ n. drop (n + 1) (tag ++ 32 ∷ line)) (first_blank tag line ok) ∙ past_seam tag line

-- a line, and the lines after its end
pub line_then : (line rest : List ℕ) → is_line line ≡ true → physical_lines (line ++ 10 ∷ rest) ≡ line ∷ physical_lines rest
line_then [] rest ok = refl
line_then (x ∷ line) rest ok =
    let parts = both (not (eqb x 10)) (is_line line) ok in
    ap (λ b. cond b ([] ∷ physical_lines (line ++ 10 ∷ rest)) (onto_first x (physical_lines (line ++ 10 ∷ rest)))) (not_false (eqb x 10) parts.0)
    ∙ ap (onto_first x) (line_then line rest parts.1)

-- the lines of a text are lines
onto_lines : (x : ℕ) (lines : List (List ℕ)) → eqb x 10 ≡ false → list_all is_line lines ≡ true → list_all is_line (onto_first x lines) ≡ true
onto_lines x lines other ok = grind arith

pub are_lines : (text : List ℕ) → list_all is_line (physical_lines text) ≡ true
are_lines [] = refl
are_lines (x ∷ rest) = grind (arith, are_lines rest)

-- a line with a tag is a line
tagged_is_line : (tag line : List ℕ) → is_tag tag ≡ true → is_line line ≡ true → is_line (tag ++ 32 ∷ line) ≡ true
tagged_is_line [] line ok is = is
tagged_is_line (x ∷ tag) line ok is =
    let parts = neither (eqb x 32) (eqb x 10) (is_tag tag) ok in
    ap (λ b. not b && is_line (tag ++ 32 ∷ line)) parts.1 ∙ tagged_is_line tag line parts.2 is

abbrev with_tag : List ℕ → List ℕ → List ℕ
with_tag tag line = tag ++ 32 ∷ line

-- a tagged line ahead of others
line_ahead : (tag line more : List ℕ) → (tag ++ 32 ∷ (line ++ 10 ∷ [])) ++ more ≡ with_tag tag line ++ 10 ∷ more
line_ahead tag line more = grind (arith, append_assoc)

-- the lines of tagged lines and of what follows them
lines_with : (tag : List ℕ) (lines : List (List ℕ)) (more : List ℕ) → is_tag tag ≡ true → list_all is_line lines ≡ true →
    physical_lines (flat_map (λ line. tag ++ 32 ∷ with_feed line) lines ++ more) ≡ map (with_tag tag) lines ++ physical_lines more
lines_with tag [] more ok are = refl
lines_with tag (line ∷ lines) more ok are =
    let parts = both (is_line line) (list_all is_line lines) are in
    let others = flat_map (λ line. tag ++ 32 ∷ with_feed line) lines in
    ap physical_lines (append_assoc (tag ++ 32 ∷ with_feed line) others more ∙ line_ahead tag line (others ++ more))
    ∙ (line_then (with_tag tag line) (others ++ more) (tagged_is_line tag line ok parts.0)
    ∙ ap (λ ls. with_tag tag line ∷ ls) (lines_with tag lines more ok parts.1))

-- all lines that were written
abbrev lines_in : List Tagged → List (List ℕ)
lines_in all = flat_map (λ t. map (with_tag t.tag) (physical_lines t.text)) all

lines_of_output : (all : List Tagged) → have_tags all ≡ true → physical_lines (output_of all) ≡ lines_in all
lines_of_output [] ok = refl
lines_of_output (t ∷ all) ok =
    let parts = both (is_tag t.tag) (have_tags all) ok in
    lines_with t.tag (physical_lines t.text) (output_of all) parts.0 (are_lines t.text)
    ∙ ap (λ ls. map (with_tag t.tag) (physical_lines t.text) ++ ls) (lines_of_output all parts.1)

-- what the lines of one text tell that owner
abbrev tells : List ℕ → List ℕ → List ℕ
tells owner line = cond (is_of owner (tag_of line)) (with_feed (rest_of line)) []

tells_one : (owner own line : List ℕ) → is_tag own ≡ true → tells owner (with_tag own line) ≡ cond (is_of owner own) (with_feed line) []
tells_one owner own line ok = grind (arith, tag_is, rest_is)

no_text : (b : Bool) → ◌≡◌ {A = List ℕ} [] (cond b [] [])
no_text b = grind arith

tells_lines : (owner own : List ℕ) (lines : List (List ℕ)) → is_tag own ≡ true →
    flat_map (tells owner) (map (with_tag own) lines) ≡ cond (is_of owner own) (flat_map with_feed lines) []
tells_lines owner own [] ok = no_text (is_of owner own)
tells_lines owner own (line ∷ lines) ok = grind (arith, tells_one, tells_lines owner own lines ok)

tells_all : (owner : List ℕ) (all : List Tagged) → have_tags all ≡ true → flat_map (tells owner) (lines_in all) ≡ told_in owner all
tells_all owner [] ok = refl
tells_all owner (t ∷ all) ok =
    let parts = both (is_tag t.tag) (have_tags all) ok in
    flat_map-append (tells owner) (map (with_tag t.tag) (physical_lines t.text)) (lines_in all)
    ∙ (ap (λ l. l ++ flat_map (tells owner) (lines_in all)) (tells_lines owner t.tag (physical_lines t.text) parts.0)
    ∙ ap (λ ls. cond (is_of owner t.tag) (with_last_feed t.text) [] ++ ls) (tells_all owner all parts.1))

pub same_tag : (tag : List ℕ) → bytes_eq tag tag ≡ true
same_tag tag = (bytes_eq-Decides tag tag).1 refl

pub apart : (owner : List ℕ) (all : List Tagged) → have_tags all ≡ true → told_to owner (output_of all) ≡ told_in owner all
apart owner all ok = ap (flat_map (tells owner)) (lines_of_output all ok) ∙ tells_all owner all ok

pub back : (owner tag text : List ℕ) → is_tag tag ≡ true → is_of owner tag ≡ true → told_to owner (tagged_text tag text) ≡ with_last_feed text
back owner tag text ok own =
    let one : have_tags (record { tag = tag; text = text } ∷ []) ≡ true = ap (λ b. b && true) ok in
    ap (told_to owner) (sym (append-nil (tagged_text tag text)))
    ∙ (apart owner (record { tag = tag; text = text } ∷ []) one
    ∙ (ap (λ b. cond b (with_last_feed text) [] ++ []) own ∙ append-nil (with_last_feed text)))

-- a text of whole lines is as it was
some_lines : (x : ℕ) (text : List ℕ) → 0 < length (physical_lines (x ∷ text))
some_lines x text = grind arith

onto_closed : (x : ℕ) (lines : List (List ℕ)) → 0 < length lines → flat_map with_feed (onto_first x lines) ≡ x ∷ flat_map with_feed lines
onto_closed x lines some = grind arith

pub same : (text : List ℕ) → is_whole text ≡ true → with_last_feed text ≡ text
same [] ok = refl
same (x ∷ []) ok = grind arith
same (x ∷ y ∷ text) ok = grind (arith, onto_closed, some_lines, same (y ∷ text) ok)

or_any : (a b : Bool) → b ≡ true → a || b ≡ true
or_any a b e = grind arith

of_first : (t : Tagged) (all : List Tagged) (lines more : List (List ℕ)) → is_tag t.tag ≡ true → are_of (t ∷ all) more ≡ true → are_of (t ∷ all) (map (with_tag t.tag) lines ++ more) ≡ true
of_first t all [] more ok others = others
of_first t all (line ∷ lines) more ok others = grind (arith, tag_is, same_tag, of_first t all lines more ok others)

of_more : (t : Tagged) (all : List Tagged) (lines : List (List ℕ)) → are_of all lines ≡ true → are_of (t ∷ all) lines ≡ true
of_more t all [] are = refl
of_more t all (line ∷ lines) are =
    let parts = both (list_any (λ u. bytes_eq (tag_of line) u.tag) all) (are_of all lines) are in
    ap (λ b. b && are_of (t ∷ all) lines) (or_any (bytes_eq (tag_of line) t.tag) (list_any (λ u. bytes_eq (tag_of line) u.tag) all) parts.0) ∙ of_more t all lines parts.1

are_of_all : (all : List Tagged) → have_tags all ≡ true → are_of all (lines_in all) ≡ true
are_of_all [] ok = refl
are_of_all (t ∷ all) ok =
    let parts = both (is_tag t.tag) (have_tags all) ok in
    of_first t all (physical_lines t.text) (lines_in all) parts.0 (of_more t all (lines_in all) (are_of_all all parts.1))

pub lines : (all : List Tagged) → have_tags all ≡ true → are_of all (physical_lines (output_of all)) ≡ true
lines all ok = ap (are_of all) (lines_of_output all ok) ∙ are_of_all all ok

-- what is written is of whole lines
whole_then : (line more : List ℕ) → is_whole more ≡ true → is_whole (line ++ 10 ∷ more) ≡ true
whole_then [] [] ok = refl
whole_then [] (x ∷ more) ok = ok
whole_then (x ∷ []) more ok = whole_then [] more ok
whole_then (x ∷ y ∷ line) more ok = whole_then (y ∷ line) more ok

whole_lines : (tag : List ℕ) (lines : List (List ℕ)) (more : List ℕ) → is_whole more ≡ true → is_whole (flat_map (λ line. tag ++ 32 ∷ with_feed line) lines ++ more) ≡ true
whole_lines tag [] more ok = ok
whole_lines tag (line ∷ lines) more ok = grind (arith, append_assoc, line_ahead, whole_then, whole_lines tag lines more ok)

pub whole : (all : List Tagged) → is_whole (output_of all) ≡ true
whole [] = refl
whole (t ∷ all) = whole_lines t.tag (physical_lines t.text) (output_of all) (whole all)
