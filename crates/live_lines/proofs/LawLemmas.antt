-- What lines that were served mean for each name.
use Rattle.live_lines.proofs.Prelude.{◌≡◌, ℕ, suc, ◌+◌, List, [], ◌∷◌, ◌++◌, codes, Bool, true, false, not, ◌&&◌, cond, eqb, take, Option, refl, sym, ap, subst, ◌∙◌, arith, append-nil, append_assoc, ⊤, nat_lt, nat_le, list_all, position_or_len, bytes_eq, flat_map-append, list_all-append, bytes_eq-Decides, Act, Session, is_name, is_name_byte, SessionLine, item_and, items_to_come, Stage, Call, Tagged, answer_told, with_last_feed, have_tags, id_of, is_good_id, is_of, is_tag, is_whole, output_of, owner_of, rest_of, tag_of, told_in, told_to, first_of_owner, has_none, is_lawful, own_id, own_owner, apart, both, same, same_tag, IsAnswered, Telling, Tells, items_for, replies_for, said_by, Asked, LiveState, Takes, TakesAsked, TellsItem, asked_by, asked_of, Says}
use Rattle.std.specs.Prelude.{length}
use Rattle.live_lines.proofs.AnswerLemmas.{answer_whole}

-- a line says something only under a name, and its tag is that name's
abbrev pub IsNamed : List ℕ → Asked → Type 0
IsNamed tag (Says name rest) = (is_name name ≡ true) × (owner_of tag ≡ 64 ∷ name) × (is_good_id (id_of tag) ≡ true)
IsNamed tag asked = ⊤

named_by : (tag owner line rest : List ℕ) → owner_of tag ≡ owner → is_good_id (id_of tag) ≡ true → IsNamed tag (asked_by owner line rest)
named_by tag owner line rest own good = search arith

pub named : (line : List ℕ) → IsNamed (tag_of line) (asked_of line)
named line = search (named_by, arith)

-- the tag of what a name says is of that name
pub named_of : (tag name rest : List ℕ) → IsNamed tag (Says name rest) → is_of (64 ∷ name) tag ≡ true
named_of tag name rest h1 = grind (arith, same_tag)

-- a line whose tag is not of the name isn't of the name
abbrev pub IsNotOf : List ℕ → Asked → Type 0
IsNotOf name (Says other rest) = bytes_eq name other ≡ false
IsNotOf name asked = ⊤

either_not_of : (name : List ℕ) (b : Bool) (x y : Asked) → (b ≡ true → IsNotOf name x) → IsNotOf name y → IsNotOf name (cond b x y)
either_not_of name b x y first second = grind arith

other_name : (b : ℕ) (other name : List ℕ) → eqb b 64 ≡ true → bytes_eq (b ∷ other) (64 ∷ name) ≡ false → bytes_eq name other ≡ false
other_name b other name is apart = grind (arith, bytes_eq-Decides)

not_of_by : (name owner line rest : List ℕ) → bytes_eq owner (64 ∷ name) ≡ false → IsNotOf name (asked_by owner line rest)
not_of_by name [] line rest apart = tt
not_of_by name (b ∷ other) line rest apart = search (other_name, arith)

pub not_of : (name line : List ℕ) → is_of (64 ∷ name) (tag_of line) ≡ false → IsNotOf name (asked_of line)
not_of name line apart = grind (arith, either_not_of, not_of_by)

-- a line with the name's tag is what the name says
take_next : (n x : ℕ) (xs : List ℕ) → take (1 + n) (x ∷ xs) ≡ x ∷ take n xs
take_next n x xs = let e : 1 + n ≡ suc n = omega arith in ap (λ m. take m (x ∷ xs)) e

abbrev blank_at : List ℕ → ℕ
blank_at line = position_or_len (λ byte. eqb byte 32) line

pub says : (name line : List ℕ) → is_name name ≡ true → is_of (64 ∷ name) (tag_of line) ≡ true → asked_of line ≡ Says name (rest_of line)
says name line ok is = grind (arith, both, bytes_eq-Decides, first_of_owner)

-- items
pub turned : (a b : List ℕ) → bytes_eq a b ≡ false → bytes_eq b a ≡ false
turned a b apart = grind (arith, bytes_eq-Decides)

item_told : (tag name : List ℕ) (old : Stage) (item : Option SessionLine) (tellings : List Telling) (told : List Tagged) (new : Stage) (items : List SessionLine) → TellsItem old tag name item tellings told new → item_and item items ≡ items_for name tellings ++ items
item_told tag name old item tellings told new items h1 = grind (arith, same_tag)

other_told : (tag name other : List ℕ) (old : Stage) (item : Option SessionLine) (tellings : List Telling) (told : List Tagged) (new : Stage) → bytes_eq name other ≡ false → TellsItem old tag other item tellings told new → items_for name tellings ≡ []
other_told tag name other old item tellings told new h1 h2 = grind (arith, turned)

own_items : (tag name rest : List ℕ) (old : LiveState) (number : ℕ) (tellings : List Telling) (told : List Tagged) (new : LiveState) (more : List (List ℕ)) → TakesAsked old number tag (Says name rest) tellings told new →
    items_to_come (old.texts name) (rest ∷ more) ≡ items_for name tellings ++ items_to_come (new.texts name) more
own_items tag name rest old number tellings told new more h1 = grind (arith, item_told)

no_items : (tag name : List ℕ) (old : LiveState) (number : ℕ) (asked : Asked) (tellings : List Telling) (told : List Tagged) (new : LiveState) → IsNotOf name asked → TakesAsked old number tag asked tellings told new →
    (new.texts name ≡ old.texts name) × (items_for name tellings ≡ [])
no_items tag name old number asked tellings told new h1 h2 = grind (arith, other_told)

line_items : (name line : List ℕ) (old : LiveState) (number : ℕ) (tellings : List Telling) (told : List Tagged) (new : LiveState) (more : List (List ℕ)) → is_name name ≡ true → TakesAsked old number (tag_of line) (asked_of line) tellings told new →
    items_to_come (old.texts name) (cond (is_of (64 ∷ name) (tag_of line)) (rest_of line ∷ []) [] ++ more) ≡ items_for name tellings ++ items_to_come (new.texts name) more
line_items name line old number tellings told new more ok takes =
    elim (is_of (64 ∷ name) (tag_of line)) as (λ b. is_of (64 ∷ name) (tag_of line) ≡ b → items_to_come (old.texts name) (cond b (rest_of line ∷ []) [] ++ more) ≡ items_for name tellings ++ items_to_come (new.texts name) more) [
      | true ↦ λ e.
          let P : Asked → Type 0 = λ a. TakesAsked old number (tag_of line) a tellings told new in
          own_items (tag_of line) name (rest_of line) old number tellings told new more (subst P (says name line ok e) takes)
      | false ↦ λ e.
          let (stays, none) = no_items (tag_of line) name old number (asked_of line) tellings told new (not_of name line e) takes in
          sym (ap (λ is. is ++ items_to_come (new.texts name) more) none ∙ ap (λ t. items_to_come t more) stays)
    ] refl

pub items_with : (name : List ℕ) (old new : LiveState) (number : ℕ) (lines : List (List ℕ)) (tellings : List Telling) (told : List Tagged) (more : List (List ℕ)) → is_name name ≡ true → Takes old number lines tellings told new →
    items_to_come (old.texts name) (said_by name lines ++ more) ≡ items_for name tellings ++ items_to_come (new.texts name) more
items_with name old new number [] tellings told more ok (none, nothing, stays) = grind arith
items_with name old new number (line ∷ lines) tellings told more ok (first, first_told, mid, others, others_told, one, rest, all, nothing) = grind (arith, append_assoc, line_items, flat_map-append, items_with name mid new (number + 1) lines others others_told more ok rest)

pub items_all : (name : List ℕ) (old new : LiveState) (number : ℕ) (lines : List (List ℕ)) (tellings : List Telling) (told : List Tagged) → is_name name ≡ true → Takes old number lines tellings told new →
    items_to_come (old.texts name) (said_by name lines) ≡ items_for name tellings ++ items_to_come (new.texts name) []
items_all name old new number lines tellings told ok takes = grind (arith, items_with, append-nil (said_by name lines), items_with name old new number lines tellings told [] ok takes)

-- replies
session_whole : (old : Stage) (name : List ℕ) (item : SessionLine) (act : Act (List ℕ)) (calls : List Call) (text : List ℕ) (new : Stage) → act ≡ Session name item → IsAnswered old act calls text new → is_whole text ≡ true
session_whole old name item act calls text new is answered = grind (arith, answer_whole)

-- the line that says that an answer is whole is no one's
no_end : (name tag : List ℕ) (b : Bool) → told_in (64 ∷ name) (cond b (record { tag = codes "done"; text = tag } ∷ []) []) ≡ []
no_end name tag b = grind arith

pub answer_in : (name other tag text : List ℕ) → owner_of tag ≡ 64 ∷ other → is_good_id (id_of tag) ≡ true → with_last_feed text ≡ text → told_in (64 ∷ name) (answer_told tag text) ≡ cond (bytes_eq other name) text [] ++ []
answer_in name other tag text own good whole = grind arith

item_replies : (tag name other : List ℕ) (old : Stage) (item : Option SessionLine) (tellings : List Telling) (told : List Tagged) (new : Stage) → owner_of tag ≡ 64 ∷ other → is_good_id (id_of tag) ≡ true → TellsItem old tag other item tellings told new → told_in (64 ∷ name) told ≡ replies_for name tellings
item_replies tag name other old item tellings told new own good h3 = search (same, session_whole, answer_in, arith)

asked_replies : (tag name : List ℕ) (old : LiveState) (number : ℕ) (asked : Asked) (tellings : List Telling) (told : List Tagged) (new : LiveState) → IsNamed tag asked → TakesAsked old number tag asked tellings told new → told_in (64 ∷ name) told ≡ replies_for name tellings
asked_replies tag name old number asked tellings told new is_named h2 = grind (arith, item_replies)

pub told_in-append : (tag : List ℕ) (first more : List Tagged) → told_in tag (first ++ more) ≡ told_in tag first ++ told_in tag more
told_in-append tag first more = flat_map-append (λ (t : Tagged). cond (is_of tag t.tag) (with_last_feed t.text) []) first more

pub lines_replies : (name : List ℕ) (old new : LiveState) (number : ℕ) (lines : List (List ℕ)) (tellings : List Telling) (told : List Tagged) → Takes old number lines tellings told new → told_in (64 ∷ name) told ≡ replies_for name tellings
lines_replies name old new number [] tellings told (none, nothing, stays) = ap (told_in (64 ∷ name)) nothing ∙ sym (ap (replies_for name) none)
lines_replies name old new number (line ∷ lines) tellings told (first, first_told, mid, others, others_told, one, rest, all, all_told) = grind (arith, asked_replies, named, flat_map-append, lines_replies name mid new (number + 1) lines others others_told rest)

-- a name with `@` is its own owner
not_47 : (b : ℕ) → is_name_byte b ≡ true → eqb b 47 ≡ false
not_47 b ok = grind arith

no_slashes : (name : List ℕ) → list_all is_name_byte name ≡ true → has_none name ≡ true
no_slashes [] ok = refl
no_slashes (b ∷ name) ok =
    let parts = both (is_name_byte b) (list_all is_name_byte name) ok in
    ap (λ v. not v && has_none name) (not_47 b parts.0) ∙ no_slashes name parts.1

pub name_none : (name : List ℕ) → is_name name ≡ true → has_none (64 ∷ name) ≡ true
name_none name ok = no_slashes name (both (nat_lt 0 (length name) && nat_le (length name) 32) (list_all is_name_byte name) ok).1

pub of_itself : (name other : List ℕ) → is_name other ≡ true → is_of (64 ∷ name) (64 ∷ other) ≡ bytes_eq other name
of_itself name other ok = grind (arith, own_id (64 ∷ other) (name_none other ok), own_owner (64 ∷ other) (name_none other ok))

-- a name with `@` can be a tag
not_32 : (b : ℕ) → is_name_byte b ≡ true → eqb b 32 ≡ false
not_32 b ok = grind arith

pub not_10 : (b : ℕ) → is_name_byte b ≡ true → eqb b 10 ≡ false
not_10 b ok = grind arith

tag_bytes : (name : List ℕ) → list_all is_name_byte name ≡ true → is_tag name ≡ true
tag_bytes [] ok = refl
tag_bytes (b ∷ name) ok =
    let parts = both (is_name_byte b) (list_all is_name_byte name) ok in
    ap (λ v. (not v && not (eqb b 10)) && is_tag name) (not_32 b parts.0)
    ∙ (ap (λ v. not v && is_tag name) (not_10 b parts.0) ∙ tag_bytes name parts.1)

pub name_tag : (name : List ℕ) → is_name name ≡ true → is_tag (64 ∷ name) ≡ true
name_tag name ok = tag_bytes name (both (nat_lt 0 (length name) && nat_le (length name) 32) (list_all is_name_byte name) ok).1

-- a tag of a name, with an id or without
pub of_name_tag : (tag name : List ℕ) → is_name name ≡ true → owner_of tag ≡ 64 ∷ name → is_good_id (id_of tag) ≡ true → is_tag tag ≡ true
of_name_tag tag name ok own good = is_lawful tag (ap is_tag own ∙ name_tag name ok) good

asked_tags : (tag : List ℕ) (old : LiveState) (number : ℕ) (asked : Asked) (tellings : List Telling) (told : List Tagged) (new : LiveState) → IsNamed tag asked → TakesAsked old number tag asked tellings told new → have_tags told ≡ true
asked_tags tag old number asked tellings told new ok h2 = grind (arith, of_name_tag)

pub lines_tags : (old new : LiveState) (number : ℕ) (lines : List (List ℕ)) (tellings : List Telling) (told : List Tagged) → Takes old number lines tellings told new → have_tags told ≡ true
lines_tags old new number [] tellings told (none, nothing, stays) = ap have_tags nothing
lines_tags old new number (line ∷ lines) tellings told (first, first_told, mid, others, others_told, one, rest, all, all_told) = grind (arith, list_all-append, asked_tags, named, lines_tags mid new (number + 1) lines others others_told rest)

pub replies_all : (name : List ℕ) (old new : LiveState) (number : ℕ) (lines : List (List ℕ)) (tellings : List Telling) (told : List Tagged) → Takes old number lines tellings told new → told_to (64 ∷ name) (output_of told) ≡ replies_for name tellings
replies_all name old new number lines tellings told takes = grind (arith, apart, lines_tags, lines_replies)

-- acts, one after another
pub Tells-append : (a : Stage) (first : List Telling) (b : Stage) (more : List Telling) (c : Stage) → Tells a first b → Tells b more c → Tells a (first ++ more) c
Tells-append a [] b more c is next = let P : Stage → Type 0 = λ s. Tells s more c in subst P is next
Tells-append a (t ∷ first) b more c (mid, answered, is) next = (mid, answered, Tells-append mid first b more c is next)

no_tells : (old : Stage) (tellings : List Telling) (new : Stage) → tellings ≡ [] → new ≡ old → Tells old tellings new
no_tells old tellings new none stays = let P : List Telling → Type 0 = λ ts. Tells old ts new in subst P (sym none) stays

pub tells_all : (old new : LiveState) (number : ℕ) (lines : List (List ℕ)) (tellings : List Telling) (told : List Tagged) → Takes old number lines tellings told new → Tells old.stage tellings new.stage
tells_all old new number [] tellings told (none, nothing, stays) = no_tells old.stage tellings new.stage none (ap (λ (s : LiveState). s.stage) stays)
tells_all old new number (line ∷ lines) tellings told (first, first_told, mid, others, others_told, one, rest, all, nothing) = grind (arith, tells_all mid new (number + 1) lines others others_told rest)
