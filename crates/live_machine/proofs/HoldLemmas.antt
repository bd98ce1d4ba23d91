-- What a held name has said, after each call.
use Rattle.live_machine.proofs.Prelude.{◌≡◌, ℕ, inl, inr, List, [], ◌∷◌, ◌++◌, Bool, true, false, None, sym, subst, arith, AllByRecursion, LineForm, Asks, Begins, Blank, Command, Refused, Wait, ends_text, rest_of, AreSaid, Held, HeldItem, HearsForm, HearsHeld, HearsIn, IsSaidBy, IsSaidItem, IsSaidText, PutsItem, form_of, OpenText, NoText, Begun, Lost}

-- one more of which it holds
all_push : {A : Type 0} (P : A → Type 0) (xs : List A) (y : A) → AllByRecursion P xs → P y → AllByRecursion P (xs ++ y ∷ [])
all_push P [] y all is = (is, tt)
all_push P (x ∷ xs) y all is = (all.0, all_push P xs y all.1 is)

said_put : (name : List ℕ) (old : List HeldItem) (lines : List (List ℕ)) (new : List HeldItem) → AllByRecursion (IsSaidItem name) old → AllByRecursion (IsSaidBy name) lines → PutsItem old lines new →
    AllByRecursion (IsSaidItem name) new
said_put name old lines new all are h3 = grind (arith, all_push)

-- an item of that line, or one that was lost, is put
said_item : (old : Held) (line : List ℕ) (new : Held) → AreSaid old → IsSaidBy old.name line → (items : List HeldItem) × PutsItem old.items (line ∷ []) items × (new ≡ record old { items = items }) → AreSaid new
said_item old line new said is (items, puts, e) = subst AreSaid (sym e) (record {
  items = said_put old.name old.items (line ∷ []) items said.items (is, tt) puts;
  text = said.text;
})

said_form : (form : LineForm) (old : Held) (line : List ℕ) (new : Held) → AreSaid old → IsSaidBy old.name line → HearsForm form old line new → AreSaid new
said_form (Begins kind) old line new said is (inl e) = subst AreSaid (sym e) (record { items = said.items; text = (is, tt) })
said_form (Begins kind) old line new said is (inr e) = subst AreSaid (sym e) (record { items = said.items; text = tt })
said_form (Asks Blank) old line new said is e = subst AreSaid (sym e) said
said_form (Asks Wait) old line new said is h = said_item old line new said is h
said_form (Asks (Command command)) old line new said is h = said_item old line new said is h
said_form (Asks (Refused refusal)) old line new said is h = said_item old line new said is h

said_in : (text : OpenText) (ends : Bool) (old : Held) (line : List ℕ) (new : Held) → AreSaid old → IsSaidText old.name text → IsSaidBy old.name line → HearsIn text ends old line new → AreSaid new
said_in NoText ends old line new said t is h = said_form (form_of line) old line new said is h
said_in (Begun lines) false old line new said t is (inl e) = subst AreSaid (sym e) (record { items = said.items; text = all_push (IsSaidBy old.name) lines line t is })
said_in (Begun lines) false old line new said t is (inr e) = subst AreSaid (sym e) (record { items = said.items; text = tt })
said_in (Begun lines) true old line new said t is (items, puts, e) = subst AreSaid (sym e) (record {
  items = said_put old.name old.items (lines ++ line ∷ []) items said.items (all_push (IsSaidBy old.name) lines line t is) puts;
  text = tt;
})
said_in Lost false old line new said t is e = subst AreSaid (sym e) said
said_in Lost true old line new said t is e = subst AreSaid (sym e) (record { items = all_push (IsSaidItem old.name) old.items None said.items tt; text = tt })

-- a line of the name comes
pub said_after : (old : Held) (line : List ℕ) (new : Held) → AreSaid old → IsSaidBy old.name line → HearsHeld old line new → AreSaid new
said_after old line new said is h = said_in old.text (ends_text (rest_of line)) old line new said said.text is h
