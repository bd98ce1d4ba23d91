-- The items of a name's lines, whatever lines come after them.
use Rattle.live_machine.proofs.Prelude.{◌≡◌, ℕ, List, [], ◌∷◌, ◌++◌, map, true, false, Option, Some, None, refl, ap, ◌∙◌, append_assoc, arith, option_map, Asks, Begins, SessionLine, TextKind, begins_text, ends_text, items_from, text_ahead, text_item, with_form, with_item, without_cr, TextSoFar, items_to_come, line_form, rest_of}

-- a name that was in the first text says these lines: these items come of them, and it is in the
-- second
abbrev pub Reads : Option TextSoFar → List (List ℕ) → List SessionLine → Option TextSoFar → Type 0
Reads old said items new = (more : List (List ℕ)) → items_to_come old (said ++ more) ≡ items ++ items_to_come new more

abbrev pub rests : List (List ℕ) → List (List ℕ)
rests lines = map rest_of lines

-- the lines are one item
abbrev pub IsWhole : List (List ℕ) → Type 0
IsWhole lines = (item : SessionLine) × Reads None (rests lines) (item ∷ []) None

pub reads_both : (old mid new : Option TextSoFar) (first second : List (List ℕ)) (items more : List SessionLine) → Reads old first items mid → Reads mid second more new → Reads old (first ++ second) (items ++ more) new
reads_both old mid new first second items more one other lines = grind (arith, append_assoc)

with_one : (item : SessionLine) (items : List SessionLine) → with_item item items ≡ with_item item [] ++ items
with_one item items = grind arith

pub reads_asked : (said : List ℕ) (item : SessionLine) → line_form (without_cr said) ≡ Asks item → Reads None (said ∷ []) (with_item item []) None
reads_asked said item is more = ap (λ form. with_form form more (items_from (begins_text form) more)) is ∙ with_one item (items_from false more)

pub reads_begun : (said : List ℕ) (kind : TextKind) → line_form (without_cr said) ≡ Begins kind → Reads None (said ∷ []) [] (Some (record { kind = kind; bytes = [] }))
reads_begun said kind is more = grind arith

mapped_more : (bytes line : List ℕ) (o : Option (List ℕ)) → option_map (λ more. bytes ++ more) (option_map (λ text. line ++ 10 ∷ text) o) ≡ option_map (λ more. (bytes ++ (line ++ 10 ∷ [])) ++ more) o
mapped_more bytes line o = grind (arith, append_assoc)

pub reads_on : (text : TextSoFar) (said : List ℕ) → ends_text said ≡ false → Reads (Some text) (said ∷ []) [] (Some (record text { bytes = text.bytes ++ (without_cr said ++ 10 ∷ []) }))
reads_on text said is more = grind (arith, mapped_more text.bytes (without_cr said) (text_ahead more))

pub reads_end : (text : TextSoFar) (said : List ℕ) → ends_text said ≡ true → Reads (Some text) (said ∷ []) (text_item text.kind (Some (text.bytes ++ [])) ∷ []) None
reads_end text said is more = grind arith

-- after lines that are one item the name is in no text
none_left : (items : List SessionLine) (item : SessionLine) → items ++ item ∷ [] ≡ [] → ⊥
none_left [] item e = absurd (cc)
none_left (i ∷ items) item e = absurd (cc)

pub outside_after : (items : List SessionLine) (item : SessionLine) (text : Option TextSoFar) → ((more : List (List ℕ)) → items ++ items_to_come text more ≡ item ∷ items_to_come None more) → text ≡ None
outside_after items item None same = refl
outside_after [] item (Some text) same = let e = same ((46 ∷ []) ∷ []) in absurd (cc)
outside_after (i ∷ items) item (Some text) same =
    let e = same [] in
    let rest : items ++ items_to_come (Some text) [] ≡ [] = cc in
    absurd (none_left items (text_item text.kind None) rest)

-- nor is it after lines that another name says
pub outside_still : (items : List SessionLine) (text : Option TextSoFar) → Reads None [] items text → text ≡ None
outside_still items None reads = refl
outside_still [] (Some text) reads = let e = reads [] in absurd (cc)
outside_still (i ∷ items) (Some text) reads = let e = reads [] in absurd (cc)
