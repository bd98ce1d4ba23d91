-- Texts of a page that are written one after another.
use Rattle.desk_replies.proofs.Prelude.{AreLinesOf, IsPage, IsPageShown, ◌-◌, ◌^◌, IsBeginning, IfOk, Outcome, ◌≡◌, ◌∙◌, ℕ, ◌+◌, ◌<◌, ◌≤◌, Bool, List, [], ◌++◌, length, take, Option, Some, None, Result, Ok, Err, inl, inr, refl, ap, subst, arith, codes, true, false, if◌then◌else◌, flat_map, slice_get, option_map_or, OnOk, is_ok, false≢true, slice_get_cases, IsEmptyOr, ShowsPresentStops, all_loop, all_same, all_then, part_loop, part_same, TakesAll, TakesPart, Writes, Failed, element_text, Viewer, NameAccount, ToldLine, AreAround, AreItemsOf, AreTexts, IsItem, IsItemIf, device_text, file_item, file_items, script_items, sink_text, text_items, LastStates, is_unrouted, AreTextsOf, WritesSome, Lines, PageTexts, PageWishes}

-- the texts at a place of a list, if it has that place
pub more_at : {S X : Type 0} {contents : S → Option (List ℕ)} {has_failed : S → Bool} {a b c : S} (f : X → List ℕ) (xs : List X) (i : ℕ) → i < length xs → TakesAll contents has_failed a b (flat_map f (take i xs)) →
    TakesAll contents has_failed b c (option_map_or f (slice_get xs i) []) → TakesAll contents has_failed a c (flat_map f (take (i + 1) xs))
more_at f xs i within before next =
    elim (slice_get_cases xs i).1 [
      | inl found ↦ all_loop f xs i found.0 found.2 before (all_same next (ap (λ one. option_map_or f one []) found.2))
      | inr none ↦ let past : length xs ≤ i = none.0 in absurd (omega arith)
    ]

pub part_at : {S X : Type 0} {contents : S → Option (List ℕ)} {has_failed : S → Bool} {a b c : S} (f : X → List ℕ) (xs : List X) (i : ℕ) → i < length xs → TakesAll contents has_failed a b (flat_map f (take i xs)) →
    TakesPart contents has_failed b c (option_map_or f (slice_get xs i) []) → TakesPart contents has_failed a c (flat_map f xs)
part_at f xs i within before next =
    elim (slice_get_cases xs i).1 [
      | inl found ↦ part_loop f xs i found.0 found.2 before (part_same next (ap (λ one. option_map_or f one []) found.2))
      | inr none ↦ let past : length xs ≤ i = none.0 in absurd (omega arith)
    ]

-- an item of a text, if it is made
pub item_made : (P : List ℕ → Type 0) (kind name bytes : List ℕ) (shown : Option (List ℕ)) (made : Result (Unit {0}) Failed) (is_made : Bool) → OnOk made (P bytes) → is_made ≡ is_ok made → shown ≡ (if is_made then Some bytes else None) →
    IsItem P kind name (file_item kind name shown)
item_made P kind name bytes shown (Ok u) is_made is same e = rw (e ∙ ap (λ (b : Bool). if b then Some bytes else None) same) (inr (bytes, is, refl))
item_made P kind name bytes shown (Err failed) is_made is same e = rw (e ∙ ap (λ (b : Bool). if b then Some bytes else None) same) (inl refl)

-- an item of a text that is not empty, if it is made
pub item_if : (P : List ℕ → Type 0) (kind name bytes : List ℕ) (shown : Option (List ℕ)) (is_made : Bool) → (is_made ≡ true → P bytes) → shown ≡ (if is_made then Some bytes else None) → IsItem P kind name (file_item kind name shown)
item_if P kind name bytes shown true is e = rw e (inr (bytes, is refl, refl))
item_if P kind name bytes shown false is e = rw e (inl refl)

-- what holds of the text of a sink that took it
pub ok_has : (Q : Type 0) (r : Result (Unit {0}) Failed) → is_ok r ≡ true → OnOk r Q → Q
ok_has Q (Ok u) e has = has
ok_has Q (Err failed) e has = absurd (false≢true e)

-- what is shown, if it is not empty
pub not_empty : (P : List ℕ → Type 0) (bytes : List ℕ) → (bytes ≡ [] → ⊥) → IsEmptyOr P bytes → P bytes
not_empty P bytes some (inl none) = absurd (some none)
not_empty P bytes some (inr is) = is

-- the files of a name, and what follows them
pub name_written : {S : Type 0} (contents : S → Option (List ℕ)) (has_failed : S → Bool) (a b c d : S) (overuse : List ℕ → List ℕ → Type 0) (last : LastStates) (account : NameAccount) (r : Result (Unit {0}) Failed) → TakesAll contents has_failed a b (file_items account) →
    WritesSome contents has_failed b c (IsItem (ShowsPresentStops account.files) (codes "path") account.name) →
    OnOk r (WritesSome contents has_failed c d (IsItemIf (is_unrouted last account.name) (overuse account.name) (codes "overuse") account.name)) → OnOk r (WritesSome contents has_failed a d (AreItemsOf overuse last account))
name_written contents has_failed a b c d overuse last account (Ok u) files stops crowded = (
  file_items account ++ (stops.0 ++ crowded.0),
  record { stops = stops.0; are_stops = stops.1; overuse = crowded.0; is_overuse = crowded.1; are_shown = refl },
  all_then files (all_then stops.2 crowded.2),
)
name_written contents has_failed a b c d overuse last account (Err failed) files stops crowded = tt

-- the viewer around the texts and the names
pub around_written : {S : Type 0} (contents : S → Option (List ℕ)) (has_failed : S → Bool) (a b c d e : S) (overuse : List ℕ → List ℕ → Type 0) (texts : List ℕ) (last : LastStates) (accounts : List NameAccount) (viewer : Viewer) (r : Result (Unit {0}) Failed) → TakesAll contents has_failed a b viewer.head.now →
    TakesAll contents has_failed b c texts → WritesSome contents has_failed c d (AreTextsOf (AreItemsOf overuse last) accounts) → Writes contents has_failed d e viewer.tail.now r → OnOk r (AreAround contents has_failed a e overuse texts last accounts)
around_written contents has_failed a b c d e overuse texts last accounts viewer (Ok u) head shown names tail =
    record { viewer = viewer; names = names.0; are_names = names.1; written = all_then head (all_then shown (all_then names.2 tail)) }
around_written contents has_failed a b c d e overuse texts last accounts viewer (Err failed) head shown names tail = tt

-- the texts are those of the script
pub items_same : (wishes : PageWishes) (told : List ToldLine) (last : LastStates) (texts : PageTexts) → AreTexts told last texts → sink_text texts.device ≡ device_text wishes → text_items texts ≡ script_items wishes told last
items_same wishes told last texts are device =
    λ k. element_text (codes "lines") [] (are.0 k) ++ (element_text (codes "refused") [] (are.1 k) ++ (element_text (codes "states") [] (are.2 k) ++ element_text (codes "device") [] (device k)))

-- the page of a script whose lines are these
pub page_shown : {S : Type 0} (contents : S → Option (List ℕ)) (has_failed : S → Bool) (a b : S) (text : List ℕ → Option (List ℕ)) (input : Option (List ℕ)) (wishes : PageWishes) (script : List ℕ) (lines : Lines) (r : Result (Unit {0}) Outcome) → IsBeginning (text wishes.script.now) (2 ^ 64 - 1) script →
    IfOk r (λ _. IsPage contents has_failed a b input wishes lines) → AreLinesOf text wishes.arch script lines → IfOk r (λ _. IsPageShown contents has_failed a b text input wishes)
page_shown contents has_failed a b text input wishes script lines (Ok u) read page are = record { script = script; read = read; lines = lines; are_lines = are; page = page }
page_shown contents has_failed a b text input wishes script lines (Err outcome) read page are = tt

-- the viewer around equal texts and accounts
pub around_as : {S : Type 0} {contents : S → Option (List ℕ)} {has_failed : S → Bool} {a b : S} (overuse : List ℕ → List ℕ → Type 0) (texts items : List ℕ) (last : LastStates) (accounts all : List NameAccount) → texts ≡ items → accounts ≡ all →
    AreAround contents has_failed a b overuse texts last accounts → AreAround contents has_failed a b overuse items last all
around_as {contents = contents} {has_failed = has_failed} {a = a} {b = b} overuse texts items last accounts all e k around =
    subst (λ (texts : List ℕ). AreAround contents has_failed a b overuse texts last all) e (subst (AreAround contents has_failed a b overuse texts last) k around)
