-- The outcome of a line of an input.
use Rattle.session_threads.proofs.Prelude.{◌≡◌, ℕ, List, [], ◌∷◌, ◌++◌, true, false, Some, None, refl, ap, ◌∙◌, append-nil, arith, option_map, LineForm, Asks, SessionLine, begins_text, ends_text, items_from, kept_part, text_ahead, text_item, with_form, with_item, without_cr, GivesItem, TextSoFar, line_form, continued, Nothing, Item, NoMemory, Session, Text, LostText, ComesTo, LineComesTo, is_item}

-- a line outside of texts, by its form
by_form : (line : List ℕ) (lines : List (List ℕ)) (form : LineForm) → line_form (without_cr line) ≡ form → items_from false (line ∷ lines) ≡ with_form form lines (items_from (begins_text form) lines)
by_form line lines form is = ap (λ f. with_form f lines (items_from (begins_text f) lines)) is

asked : (item : SessionLine) (items : List SessionLine) → is_item item ≡ true → with_item item items ≡ item ∷ items
asked item items is = grind arith

pub item_line : (line : List ℕ) (item : SessionLine) → line_form (without_cr line) ≡ Asks item → is_item item ≡ true → ComesTo Session line (Item item) Session
item_line line item form asks text within = record {
  next = None;
  item = Some item;
  within = refl;
  gives = λ lines. rw within (by_form line lines (Asks item) form ∙ asked item (items_from false lines) asks);
  comes = refl;
}

ends : (old : TextSoFar) (line : List ℕ) → ends_text line ≡ true → GivesItem (Some old) line (Some (text_item old.kind (Some old.bytes))) None
ends old line end lines =
    let rest : items_from true (line ∷ lines) ≡ items_from false lines = rw end refl in
    let ahead : text_ahead (line ∷ lines) ≡ Some [] = rw end refl in
    ap (λ a. text_item old.kind (option_map (λ more. old.bytes ++ more) a) ∷ items_from true (line ∷ lines)) ahead
    ∙ (ap (λ bytes. text_item old.kind (Some bytes) ∷ items_from true (line ∷ lines)) (append-nil old.bytes)
    ∙ ap (λ items. text_item old.kind (Some old.bytes) ∷ items) rest)

abbrev with_line : TextSoFar → List ℕ → TextSoFar
with_line old line = record { kind = old.kind; bytes = kept_part (old.bytes ++ without_cr line ++ 10 ∷ []) }

goes_on : (old : TextSoFar) (line : List ℕ) → ends_text line ≡ false → GivesItem (Some old) line None (Some (with_line old line))
goes_on old line on = continued old line (with_line old line) on refl

unserved : (old : TextSoFar) (line : List ℕ) → ends_text line ≡ true → LineComesTo (Some old) line NoMemory Session
unserved old line end = record { next = None; item = Some (text_item old.kind (Some old.bytes)); within = refl; gives = ends old line end; comes = tt }

lost : (old : TextSoFar) (line : List ℕ) → ends_text line ≡ false → LineComesTo (Some old) line Nothing LostText
lost old line on = record { next = Some (with_line old line); item = None; within = refl; gives = goes_on old line on; comes = refl }

pub text_ends : (old : TextSoFar) (line : List ℕ) (item : SessionLine) → ends_text line ≡ true → item ≡ text_item old.kind (Some old.bytes) → ComesTo (Text old) line (Item item) Session
text_ends old line item end is text within = rw within (record { next = None; item = Some (text_item old.kind (Some old.bytes)); within = refl; gives = ends old line end; comes = is })

pub text_unserved : (old : TextSoFar) (line : List ℕ) → ends_text line ≡ true → ComesTo (Text old) line NoMemory Session
text_unserved old line end text within = rw within (unserved old line end)

pub text_goes_on : (old new : TextSoFar) (line : List ℕ) → ends_text line ≡ false → new ≡ record { kind = old.kind; bytes = kept_part (old.bytes ++ without_cr line ++ 10 ∷ []) } → ComesTo (Text old) line Nothing (Text new)
text_goes_on old new line on is text within = rw within (record { next = Some new; item = None; within = refl; gives = continued old line new on is; comes = refl })

pub text_lost : (old : TextSoFar) (line : List ℕ) → ends_text line ≡ false → ComesTo (Text old) line Nothing LostText
text_lost old line on text within = rw within (lost old line on)

pub lost_ends : (line : List ℕ) → ends_text line ≡ true → ComesTo LostText line NoMemory Session
lost_ends line end = grind (arith, unserved)

pub lost_goes_on : (line : List ℕ) → ends_text line ≡ false → ComesTo LostText line Nothing LostText
lost_goes_on line on = grind (arith, lost)
