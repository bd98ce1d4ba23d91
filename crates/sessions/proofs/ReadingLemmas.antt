-- The items of a session's input that is read line by line.
use Rattle.sessions.proofs.Prelude.{◌≡◌, ℕ, List, [], ◌∷◌, ◌++◌, length, true, false, Option, Some, None, refl, sym, ap, ◌∙◌, arith, append_assoc, append-nil, option_map, physical_lines, SessionLine, ends_text, items_from, kept_part, text_ahead, text_item, without_cr, GivesItem, TextSoFar, item_and, items_to_come, resumed_item}
use Rattle.sessions.proofs.KeptLemmas.{kept-kept}

-- a line of a text, with the lines of the text that follow it
one_more : (old : TextSoFar) (line bytes : List ℕ) (ahead : Option (List ℕ)) → bytes ≡ kept_part (old.bytes ++ line ++ 10 ∷ []) →
    text_item old.kind (option_map (λ more. old.bytes ++ more) (option_map (λ text. line ++ 10 ∷ text) ahead)) ≡ text_item old.kind (option_map (λ more. bytes ++ more) ahead)
one_more old line bytes ahead is = grind (arith, kept-kept, append_assoc)

-- the next line of a text
pub continued : (old : TextSoFar) (line : List ℕ) (new : TextSoFar) → ends_text line ≡ false → new ≡ record { kind = old.kind; bytes = kept_part (old.bytes ++ without_cr line ++ 10 ∷ []) } →
    GivesItem (Some old) line None (Some new)
continued old line new ends is = λ lines.
    let rest : items_from true (line ∷ lines) ≡ items_from true lines = rw ends refl in
    let ahead : text_ahead (line ∷ lines) ≡ option_map (λ text. without_cr line ++ 10 ∷ text) (text_ahead lines) = rw ends refl in
    let bytes = kept_part (old.bytes ++ without_cr line ++ 10 ∷ []) in
    let same : resumed_item old (line ∷ lines) ≡ resumed_item (record { kind = old.kind; bytes = bytes }) lines =
    ap (λ a. text_item old.kind (option_map (λ more. old.bytes ++ more) a)) ahead ∙ one_more old (without_cr line) bytes (text_ahead lines) refl in
    ap (λ item. item ∷ items_from true (line ∷ lines)) (same ∙ ap (λ t. resumed_item t lines) (sym is)) ∙ ap (λ items. resumed_item new lines ∷ items) rest

-- the items after one more, if there is one
abbrev pub pushed : List SessionLine → Option SessionLine → List SessionLine
pushed items None = items
pushed items (Some item) = items ++ item ∷ []

pub pushed-and : (items : List SessionLine) (item : Option SessionLine) (rest : List SessionLine) → pushed items item ++ rest ≡ items ++ item_and item rest
pushed-and items item rest = grind (arith, append_assoc)

pub read_more : (items more : List SessionLine) (old new : Option TextSoFar) (text line after : List ℕ) (item : Option SessionLine) (all : List SessionLine) → physical_lines text ≡ line ∷ physical_lines after → GivesItem old line item new → more ≡ pushed items item →
    items ++ items_to_come old (physical_lines text) ≡ all → more ++ items_to_come new (physical_lines after) ≡ all
read_more items more old new text line after item all lines gives is was = grind (arith, pushed-and)

no_lines : (text : List ℕ) → length text ≡ 0 → physical_lines text ≡ []
no_lines [] h = refl
no_lines (b ∷ bytes) h = absurd (omega arith)

pub read_all : (items more : List SessionLine) (old : Option TextSoFar) (text : List ℕ) (item : Option SessionLine) (all : List SessionLine) → length text ≡ 0 → item_and item [] ≡ items_to_come old [] → more ≡ pushed items item →
    items ++ items_to_come old (physical_lines text) ≡ all → more ≡ all
read_all items more old text item all none ends is was = grind (arith, append-nil, no_lines)
