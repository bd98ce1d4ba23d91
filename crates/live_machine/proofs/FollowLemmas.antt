-- What one name has said, and what of it was served.
use Rattle.live_machine.proofs.Prelude.{◌≡◌, inl, inr, ℕ, List, [], ◌∷◌, ◌++◌, Bool, true, false, Option, Some, None, refl, sym, ap, subst, ◌∙◌, append_assoc, append-nil, arith, AllByRecursion, bytes_eq, LineForm, Asks, Begins, SessionLine, Blank, Command, Wait, Refused, ends_text, text_item, with_item, without_cr, TextSoFar, items_to_come, is_of, rest_of, tag_of, AreItems, IsText, Held, HeldItem, HearsForm, HearsHeld, HearsIn, PutsItem, form_of, is_wait, OpenText, NoText, Begun, Lost}
use Rattle.live_machine.proofs.ReadLemmas.{IsWhole, Reads, outside_still, reads_asked, reads_begun, reads_both, reads_end, reads_on, rests}

-- the line has the name's tag
abbrev pub IsOf : List ℕ → List ℕ → Type 0
IsOf name line = is_of (64 ∷ name) (tag_of line) ≡ true

abbrev pub AreOf : List ℕ → List (List ℕ) → Type 0
AreOf name lines = AllByRecursion (IsOf name) lines

-- what items say
abbrev pub said_in : List (List (List ℕ)) → List (List ℕ)
said_in [] = []
said_in (item ∷ items) = rests item ++ said_in items

abbrev pub IsBegun : OpenText → List (List ℕ) → Type 0
IsBegun NoText lines = lines ≡ []
IsBegun text lines = (so_far : TextSoFar) × Reads None (rests lines) [] (Some so_far)

-- these are the items and the text of a name that is held, by their lines, whether they are lost
-- or not; one that isn't held has none
pub record IsHeldAs (name : List ℕ) (h : Held) (items : List (List (List ℕ))) (text : List (List ℕ)) (now : Option TextSoFar) : Type 0 where
  pub items_are : AreItems h.items items
  pub text_is : IsText h.text text
  pub outside : now ≡ None
  pub whole : AllByRecursion IsWhole items
  pub begun : IsBegun h.text text
  pub items_of : AllByRecursion (AreOf name) items
  pub text_of : AreOf name text

abbrev pub AreHeld : List ℕ → Option Held → List (List (List ℕ)) → List (List ℕ) → Option TextSoFar → Type 0
AreHeld name None items text now = (items ≡ []) × (text ≡ [])
AreHeld name (Some h) items text now = IsHeldAs name h items text now

-- what a name said is what was served of it, and then what is held; and what was served leads to
-- the text that it is in
pub record Follows (name : List ℕ) (begun : Option TextSoFar) (said served : List (List ℕ)) (held : Option Held) (now : Option TextSoFar) : Type 0 where
  pub items : List (List (List ℕ))
  pub text : List (List ℕ)
  pub are : AreHeld name held items text now
  pub same : (more : List (List ℕ)) → items_to_come begun (said ++ more) ≡ items_to_come begun (served ++ (said_in items ++ (rests text ++ more)))
  pub done : List SessionLine
  pub read : Reads begun served done now

-- a line that says nothing of this name changes nothing
pub follow_other : (name : List ℕ) (begun : Option TextSoFar) (said served : List (List ℕ)) (held : Option Held) (now new : Option TextSoFar) (items : List SessionLine) → Follows name begun said served held now → Reads now [] items new → Follows name begun said served held new
follow_other name begun said served None now new items f reads =
    record {
      items = f.items;
      text = f.text;
      are = f.are;
      same = f.same;
      done = f.done ++ items;
      read = λ more. f.read more ∙ (ap (λ x. f.done ++ x) (reads more) ∙ sym (append_assoc f.done items (items_to_come new more)));
    }
follow_other name begun said served (Some h) now new items f reads = grind (arith, outside_still)

-- a line of a name that isn't held is served
pub follow_served : (name : List ℕ) (begun : Option TextSoFar) (said served lines : List (List ℕ)) (now new : Option TextSoFar) (items : List SessionLine) → Follows name begun said served None now → Reads now lines items new → Follows name begun (said ++ lines) (served ++ lines) None new
follow_served name begun said served lines now new items f reads =
    record {
      items = [];
      text = [];
      are = (refl, refl);
      same = λ more.
          ap (items_to_come begun) (append_assoc said lines more)
          ∙ (f.same (lines ++ more)
          ∙ (ap (λ is. items_to_come begun (served ++ (said_in is ++ (rests f.text ++ (lines ++ more))))) f.are.0
          ∙ (ap (λ t. items_to_come begun (served ++ (rests t ++ (lines ++ more)))) f.are.1
          ∙ ap (items_to_come begun) (sym (append_assoc served lines more)))));
      done = f.done ++ items;
      read = reads_both begun now new served lines f.done items f.read reads;
    }

-- a `wait` holds its name
waits_whole : (said : List ℕ) (form : LineForm) → is_wait form ≡ true → form ≡ Asks Wait
waits_whole said form is = grind arith

pub wait_whole : (line : List ℕ) → is_wait (form_of line) ≡ true → IsWhole (line ∷ [])
wait_whole line is = (Wait, reads_asked (rest_of line) Wait (waits_whole (rest_of line) (form_of line) is))

pub follow_held : (name : List ℕ) (begun : Option TextSoFar) (said served : List (List ℕ)) (line : List ℕ) (id : ℕ) (now : Option TextSoFar) → Follows name begun said served None now → now ≡ None → is_wait (form_of line) ≡ true → IsOf name line →
    Follows name begun (said ++ rest_of line ∷ []) served (Some (record { name = name; id = id; items = Some (line ∷ []) ∷ []; text = NoText })) now
follow_held name begun said served line id now f outside is of =
    record {
      items = (line ∷ []) ∷ [];
      text = [];
      are = record { items_are = (refl, tt); text_is = refl; outside = outside; whole = (wait_whole line is, tt); begun = refl; items_of = ((of, tt), tt); text_of = tt };
      same = λ more.
          ap (items_to_come begun) (append_assoc said (rest_of line ∷ []) more)
          ∙ (f.same (rest_of line ∷ more)
          ∙ (ap (λ is. items_to_come begun (served ++ (said_in is ++ (rests f.text ++ rest_of line ∷ more)))) f.are.0
          ∙ ap (λ t. items_to_come begun (served ++ (rests t ++ rest_of line ∷ more))) f.are.1));
      done = f.done;
      read = f.read;
    }

-- items and lines one after another
said_both : (items : List (List (List ℕ))) (item : List (List ℕ)) (more : List (List ℕ)) → said_in (items ++ item ∷ []) ++ more ≡ said_in items ++ (rests item ++ more)
said_both [] item more = ap (λ x. x ++ more) (append-nil (rests item))
said_both (first ∷ items) item more = grind (arith, append_assoc, said_both items item more)

rests_both : (lines : List (List ℕ)) (line : List ℕ) (more : List (List ℕ)) → rests (lines ++ line ∷ []) ++ more ≡ rests lines ++ (rest_of line ∷ more)
rests_both [] line more = refl
rests_both (first ∷ lines) line more = ap (λ x. rest_of first ∷ x) (rests_both lines line more)

reads_last : (lines : List (List ℕ)) (line : List ℕ) (old mid new : Option TextSoFar) (items more : List SessionLine) → Reads old (rests lines) items mid → Reads mid (rest_of line ∷ []) more new → Reads old (rests (lines ++ line ∷ [])) (items ++ more) new
reads_last lines line old mid new items more first last rest = grind (arith, rests_both, append_assoc)

of_last : (name : List ℕ) (lines : List (List ℕ)) (line : List ℕ) → AreOf name lines → IsOf name line → AreOf name (lines ++ line ∷ [])
of_last name [] line all of = (of, tt)
of_last name (first ∷ lines) line all of = (all.0, of_last name lines line all.1 of)

add_last : {T : Type 0} (P : T → Type 0) (all : List T) (last : T) → AllByRecursion P all → P last → AllByRecursion P (all ++ last ∷ [])
add_last P [] last each one = (one, tt)
add_last P (first ∷ all) last each one = (each.0, add_last P all last each.1 one)

-- a further item
put_some : (old : List HeldItem) (items : List (List (List ℕ))) (lines item : List (List ℕ)) → AreItems old items → item ≡ lines → AreItems (old ++ Some lines ∷ []) (items ++ item ∷ [])
put_some [] [] lines item are is = (is, tt)
put_some [] (i ∷ items) lines item are is = absurd are
put_some (Some l ∷ old) [] lines item are is = absurd are
put_some (None ∷ old) [] lines item are is = absurd are
put_some (Some l ∷ old) (i ∷ items) lines item are is = (are.0, put_some old items lines item are.1 is)
put_some (None ∷ old) (i ∷ items) lines item are is = put_some old items lines item are is

put_none : (old : List HeldItem) (items : List (List (List ℕ))) (item : List (List ℕ)) → AreItems old items → AreItems (old ++ None ∷ []) (items ++ item ∷ [])
put_none [] [] item are = tt
put_none [] (i ∷ items) item are = absurd are
put_none (Some l ∷ old) [] item are = absurd are
put_none (None ∷ old) [] item are = absurd are
put_none (Some l ∷ old) (i ∷ items) item are = (are.0, put_none old items item are.1)
put_none (None ∷ old) (i ∷ items) item are = put_none old items item are

put_item : (old new : List HeldItem) (items : List (List (List ℕ))) (lines item : List (List ℕ)) → AreItems old items → item ≡ lines → PutsItem old lines new → AreItems new (items ++ item ∷ [])
put_item old new items lines item are is h3 = grind (arith, put_some, put_none)

-- a line goes on with a text, or begins one
text_grows : (name : List ℕ) (begun : Option TextSoFar) (said served : List (List ℕ)) (h new : Held) (now : Option TextSoFar) (line : List ℕ) (f : Follows name begun said served (Some h) now) → IsOf name line → new.items ≡ h.items → IsText new.text (f.text ++ line ∷ []) → IsBegun new.text (f.text ++ line ∷ []) →
    Follows name begun (said ++ rest_of line ∷ []) served (Some new) now
text_grows name begun said served h new now line f of items_are text_is is_begun = grind (arith, of_last, append_assoc, rests_both)

-- a line ends an item
item_ends : (name : List ℕ) (begun : Option TextSoFar) (said served : List (List ℕ)) (h new : Held) (now : Option TextSoFar) (line : List ℕ) (f : Follows name begun said served (Some h) now) → IsOf name line → new.text ≡ NoText → AreItems new.items (f.items ++ (f.text ++ line ∷ []) ∷ []) → IsWhole (f.text ++ line ∷ []) →
    Follows name begun (said ++ rest_of line ∷ []) served (Some new) now
item_ends name begun said served h new now line f of none items_are whole =
    let P : OpenText → Type 0 = λ t. IsText t [] in
    let Q : OpenText → Type 0 = λ t. IsBegun t [] in
    let all : AreOf name (f.text ++ line ∷ []) = of_last name f.text line f.are.text_of of in
    record {
      items = f.items ++ (f.text ++ line ∷ []) ∷ [];
      text = [];
      are = record {
        items_are = items_are;
        text_is = subst P (sym none) refl;
        outside = f.are.outside;
        whole = add_last IsWhole f.items (f.text ++ line ∷ []) f.are.whole whole;
        begun = subst Q (sym none) refl;
        items_of = add_last (AreOf name) f.items (f.text ++ line ∷ []) f.are.items_of all;
        text_of = tt;
      };
      same = λ more.
          ap (items_to_come begun) (append_assoc said (rest_of line ∷ []) more)
          ∙ (f.same (rest_of line ∷ more)
          ∙ (ap (λ x. items_to_come begun (served ++ (said_in f.items ++ x))) (sym (rests_both f.text line more))
          ∙ ap (λ x. items_to_come begun (served ++ x)) (sym (said_both f.items (f.text ++ line ∷ []) more))));
      done = f.done;
      read = f.read;
    }

-- whole items one after another
reads_items : (items : List (List (List ℕ))) → AllByRecursion IsWhole items → (all : List SessionLine) × Reads None (said_in items) all None
reads_items [] whole = ([], λ more. refl)
reads_items (item ∷ items) whole =
    let rest = reads_items items whole.1 in
    (whole.0.0 ∷ rest.0, reads_both None None None (rests item) (said_in items) (whole.0.0 ∷ []) rest.0 whole.0.1 rest.1)

-- a line without a word is passed over
blank_passes : (name : List ℕ) (begun : Option TextSoFar) (said served : List (List ℕ)) (h : Held) (now : Option TextSoFar) (line : List ℕ) → Follows name begun said served (Some h) now → h.text ≡ NoText → form_of line ≡ Asks Blank → Follows name begun (said ++ rest_of line ∷ []) served (Some h) now
blank_passes name begun said served h now line f none blank = grind (arith, reads_items, append_assoc)

-- a line of a held name, outside of texts
one_item : (name : List ℕ) (begun : Option TextSoFar) (said served : List (List ℕ)) (h new : Held) (now : Option TextSoFar) (line : List ℕ) (f : Follows name begun said served (Some h) now) (item : SessionLine) (items : List HeldItem) → IsOf name line → h.text ≡ NoText → form_of line ≡ Asks item → with_item item [] ≡ item ∷ [] → PutsItem h.items (line ∷ []) items → new ≡ record h { items = items } →
    Follows name begun (said ++ rest_of line ∷ []) served (Some new) now
one_item name begun said served h new now line f item items of none is one puts after =
    let P : OpenText → Type 0 = λ t. IsText t f.text in
    let empty : f.text ≡ [] = subst P none f.are.text_is in
    let lines : f.text ++ line ∷ [] ≡ line ∷ [] = ap (λ t. t ++ line ∷ []) empty in
    let Q : List SessionLine → Type 0 = λ x. Reads None (rest_of line ∷ []) x None in
    let W : List (List ℕ) → Type 0 = IsWhole in
    let whole : IsWhole (line ∷ []) = (item, subst Q one (reads_asked (rest_of line) item is)) in
    let R : Held → Type 0 = λ n. Follows name begun (said ++ rest_of line ∷ []) served (Some n) now in
    subst R (sym after) (item_ends name begun said served h (record h { items = items }) now line f of none (put_item h.items items f.items (line ∷ []) (f.text ++ line ∷ []) f.are.items_are lines puts) (subst W (sym lines) whole))

heard_form : (name : List ℕ) (begun : Option TextSoFar) (said served : List (List ℕ)) (h new : Held) (now : Option TextSoFar) (line : List ℕ) (f : Follows name begun said served (Some h) now) (form : LineForm) → IsOf name line → h.text ≡ NoText → form_of line ≡ form → HearsForm form h line new →
    Follows name begun (said ++ rest_of line ∷ []) served (Some new) now
heard_form name begun said served h new now line f (Asks Blank) of none is hears = grind (arith, blank_passes)
heard_form name begun said served h new now line f (Asks (Command command)) of none is (items, puts, after) = one_item name begun said served h new now line f (Command command) items of none is refl puts after
heard_form name begun said served h new now line f (Asks Wait) of none is (items, puts, after) = one_item name begun said served h new now line f Wait items of none is refl puts after
heard_form name begun said served h new now line f (Asks (Refused refusal)) of none is (items, puts, after) = one_item name begun said served h new now line f (Refused refusal) items of none is refl puts after
heard_form name begun said served h new now line f (Begins kind) of none is hears =
    let P : OpenText → Type 0 = λ t. IsText t f.text in
    let empty : f.text ≡ [] = subst P none f.are.text_is in
    let lines : f.text ++ line ∷ [] ≡ line ∷ [] = ap (λ t. t ++ line ∷ []) empty in
    let so_far : TextSoFar = record { kind = kind; bytes = [] } in
    let Q : List (List ℕ) → Type 0 = λ x. Reads None (rests x) [] (Some so_far) in
    let reads = subst Q (sym lines) (reads_begun (rest_of line) kind is) in
    let R : Held → Type 0 = λ n. Follows name begun (said ++ rest_of line ∷ []) served (Some n) now in
    elim hears as (λ _. Follows name begun (said ++ rest_of line ∷ []) served (Some new) now) [
      | inl kept ↦ subst R (sym kept) (text_grows name begun said served h (record h { text = Begun (line ∷ []) }) now line f of refl lines (so_far, reads))
      | inr lost ↦ subst R (sym lost) (text_grows name begun said served h (record h { text = Lost }) now line f of refl tt (so_far, reads))
    ]

heard_in : (name : List ℕ) (begun : Option TextSoFar) (said served : List (List ℕ)) (h new : Held) (now : Option TextSoFar) (line : List ℕ) (f : Follows name begun said served (Some h) now) (text : OpenText) (ends : Bool) → IsOf name line → h.text ≡ text → ends_text (rest_of line) ≡ ends → HearsIn text ends h line new →
    Follows name begun (said ++ rest_of line ∷ []) served (Some new) now
heard_in name begun said served h new now line f NoText ends of is at hears = heard_form name begun said served h new now line f (form_of line) of is refl hears
heard_in name begun said served h new now line f (Begun lines) false of is at hears =
    let P : OpenText → Type 0 = λ t. IsText t f.text in
    let Q : OpenText → Type 0 = λ t. IsBegun t f.text in
    let own : f.text ≡ lines = subst P is f.are.text_is in
    let (so_far, reads) = subst Q is f.are.begun in
    let more : TextSoFar = record so_far { bytes = so_far.bytes ++ (without_cr (rest_of line) ++ 10 ∷ []) } in
    let grown = reads_last f.text line None (Some so_far) (Some more) [] [] reads (reads_on so_far (rest_of line) at) in
    let R : Held → Type 0 = λ n. Follows name begun (said ++ rest_of line ∷ []) served (Some n) now in
    elim hears as (λ _. Follows name begun (said ++ rest_of line ∷ []) served (Some new) now) [
      | inl kept ↦ subst R (sym kept) (text_grows name begun said served h (record h { text = Begun (lines ++ line ∷ []) }) now line f of refl (ap (λ l. l ++ line ∷ []) own) (more, grown))
      | inr lost ↦ subst R (sym lost) (text_grows name begun said served h (record h { text = Lost }) now line f of refl tt (more, grown))
    ]
heard_in name begun said served h new now line f (Begun lines) true of is at (items, puts, after) =
    let P : OpenText → Type 0 = λ t. IsText t f.text in
    let Q : OpenText → Type 0 = λ t. IsBegun t f.text in
    let own : f.text ≡ lines = subst P is f.are.text_is in
    let (so_far, reads) = subst Q is f.are.begun in
    let item = text_item so_far.kind (Some (so_far.bytes ++ [])) in
    let whole : IsWhole (f.text ++ line ∷ []) = (item, reads_last f.text line None (Some so_far) None [] (item ∷ []) reads (reads_end so_far (rest_of line) at)) in
    let R : Held → Type 0 = λ n. Follows name begun (said ++ rest_of line ∷ []) served (Some n) now in
    subst R (sym after) (item_ends name begun said served h (record h { items = items; text = NoText }) now line f of refl (put_item h.items items f.items (lines ++ line ∷ []) (f.text ++ line ∷ []) f.are.items_are (ap (λ l. l ++ line ∷ []) own) puts) whole)
heard_in name begun said served h new now line f Lost false of is at hears =
    let Q : OpenText → Type 0 = λ t. IsBegun t f.text in
    let (so_far, reads) = subst Q is f.are.begun in
    let more : TextSoFar = record so_far { bytes = so_far.bytes ++ (without_cr (rest_of line) ++ 10 ∷ []) } in
    let grown = reads_last f.text line None (Some so_far) (Some more) [] [] reads (reads_on so_far (rest_of line) at) in
    let T : OpenText → Type 0 = λ t. IsText t (f.text ++ line ∷ []) in
    let B : OpenText → Type 0 = λ t. IsBegun t (f.text ++ line ∷ []) in
    let R : Held → Type 0 = λ n. Follows name begun (said ++ rest_of line ∷ []) served (Some n) now in
    subst R (sym hears) (text_grows name begun said served h h now line f of refl (subst T (sym is) tt) (subst B (sym is) (more, grown)))
heard_in name begun said served h new now line f Lost true of is at hears =
    let Q : OpenText → Type 0 = λ t. IsBegun t f.text in
    let (so_far, reads) = subst Q is f.are.begun in
    let item = text_item so_far.kind (Some (so_far.bytes ++ [])) in
    let whole : IsWhole (f.text ++ line ∷ []) = (item, reads_last f.text line None (Some so_far) None [] (item ∷ []) reads (reads_end so_far (rest_of line) at)) in
    let R : Held → Type 0 = λ n. Follows name begun (said ++ rest_of line ∷ []) served (Some n) now in
    subst R (sym hears) (item_ends name begun said served h (record h { items = h.items ++ None ∷ []; text = NoText }) now line f of refl (put_none h.items f.items (f.text ++ line ∷ []) f.are.items_are) whole)

pub follow_heard : (name : List ℕ) (begun : Option TextSoFar) (said served : List (List ℕ)) (h new : Held) (now : Option TextSoFar) (line : List ℕ) → Follows name begun said served (Some h) now → IsOf name line → HearsHeld h line new → Follows name begun (said ++ rest_of line ∷ []) served (Some new) now
follow_heard name begun said served h new now line f of hears = heard_in name begun said served h new now line f h.text (ends_text (rest_of line)) of refl refl hears
