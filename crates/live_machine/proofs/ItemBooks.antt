-- What the items of a held name do to what was said and served.
use Rattle.live_machine.proofs.Prelude.{◌≡◌, ℕ, List, [], ◌∷◌, ◌++◌, Option, Some, None, refl, sym, ap, subst, ◌∙◌, append-nil, arith, TextSoFar, said_by, LiveState, Held, HeldItem, held_of, with_held, without_name, OpenText, NoText, Begun, Lost, EndsHold, Frees, MachineState, ServesAll, ServesItem, ServesItems, TellsLost, Turn, heard_lines, Loses}
use Rattle.live_machine.proofs.Books.{Books, follow_as}
use Rattle.live_machine.proofs.FollowLemmas.{AreOf, Follows}
use Rattle.live_machine.proofs.TakeLemmas.{IsTaken, follow_freed, follow_taken, follow_text}
use Rattle.live_machine.proofs.HeldLemmas.{changed_other, changed_own, freed_other, freed_own, name_of_held}
use Rattle.live_machine.proofs.NameBooks.{IsAbout, about_served, books_silent, nothing_read, own_read}
use Rattle.live_machine.proofs.ReadLemmas.{Reads, outside_after, rests}
use Rattle.live_machine.proofs.TurnLemmas.{loses_makes, serves_all}

-- a name that is held is on with what it says
pub record IsOn (begun : LiveState) (first : ℕ) (lines : List (List ℕ)) (taken : List Turn) (now : MachineState) (held : Held) : Type 0 where
  pub books : Books begun first lines taken now
  pub held_is : held_of now.held held.name ≡ Some held

-- the item is taken from what is held, and turns about it end in no text of the name
item_served : (begun : LiveState) (first : ℕ) (lines : List (List ℕ)) (taken turns : List Turn) (old new : MachineState) (h : Held) (item : HeldItem) (items : List HeldItem) (b : Books begun first lines taken old) → held_of old.held h.name ≡ Some h →
    (t : IsTaken h.name (begun.texts h.name) (said_by h.name lines) (said_by h.name (heard_lines b.turns)) h item items (old.live.texts h.name)) →
    IsAbout h.name old turns t.item new → new.held ≡ with_held old.held (record h { items = items }) → new.live.texts h.name ≡ None →
    IsOn begun first lines taken new (record h { items = items })
item_served begun first lines taken turns old new h item items b is t about held outside =
    let after : Held = record h { items = items } in
    let own : held_of new.held h.name ≡ Some after = ap (λ hs. held_of hs h.name) held ∙ changed_own old.held h after is in
    let F : Option Held → Type 0 = λ x. Follows h.name (begun.texts h.name) (said_by h.name lines) (said_by h.name (heard_lines b.turns) ++ rests t.item) x (new.live.texts h.name) in
    record { books = books_silent begun first lines t.item taken turns old new b h.name about (subst F (sym own) (t.follows (new.live.texts h.name) outside)); held_is = own }

pub taken_of : (begun : LiveState) (first : ℕ) (lines : List (List ℕ)) (taken : List Turn) (old : MachineState) (h : Held) (item : HeldItem) (items : List HeldItem) (b : Books begun first lines taken old) → held_of old.held h.name ≡ Some h → h.items ≡ item ∷ items →
    IsTaken h.name (begun.texts h.name) (said_by h.name lines) (said_by h.name (heard_lines b.turns)) h item items (old.live.texts h.name)
taken_of begun first lines taken old h item items b is first_is = search (follow_taken, arith)

-- an item that is lost is told
pub item_lost : (begun : LiveState) (first : ℕ) (lines : List (List ℕ)) (taken : List Turn) (old new : MachineState) (h : Held) (item : HeldItem) (items : List HeldItem) → Books begun first lines taken old → held_of old.held h.name ≡ Some h → h.items ≡ item ∷ items → TellsLost (record old { held = with_held old.held (record h { items = items }) }) h.name new →
    IsOn begun first lines taken new (record h { items = items })
item_lost begun first lines taken old new h item items b is first_is lost =
    let t = taken_of begun first lines taken old h item items b is first_is in
    let after : Held = record h { items = items } in
    let made = loses_makes (record old { held = with_held old.held after }) new h.name t.item lost in
    item_served begun first lines taken (Loses h.name t.item ∷ []) old new h item items b is t
    (record {
      named = b.named h.name h is;
      of = t.of;
      makes = record { day = made.day; log = made.log; told = made.told; served = made.served };
      heard_is = append-nil t.item;
      held = λ other apart. ap (λ (m : MachineState). held_of m.held other) lost ∙ changed_other old.held after other apart;
      read = λ other apart ok. nothing_read (old.live.texts other) (new.live.texts other) (ap (λ (m : MachineState). m.live.texts other) lost);
    })
    (ap (λ (m : MachineState). m.held) lost)
    (ap (λ (m : MachineState). m.live.texts h.name) lost ∙ t.outside)

-- the item's lines are served
lines_served : (begun : LiveState) (first : ℕ) (lines : List (List ℕ)) (taken : List Turn) (old new : MachineState) (h : Held) (item : List (List ℕ)) (items : List HeldItem) → Books begun first lines taken old → held_of old.held h.name ≡ Some h → h.items ≡ Some item ∷ items → ServesAll h.name item (record old { held = with_held old.held (record h { items = items }) }) new →
    IsOn begun first lines taken new (record h { items = items })
lines_served begun first lines taken old new h item items b is first_is serves =
    let t = taken_of begun first lines taken old h (Some item) items b is first_is in
    let after : Held = record h { items = items } in
    let mid : MachineState = record old { held = with_held old.held after } in
    let ok = b.named h.name h is in
    let O : List (List ℕ) → Type 0 = AreOf h.name in
    let of : AreOf h.name item = subst O t.is_first t.of in
    let s = serves_all h.name ok item mid new of serves in
    let (all, reads) = own_read h.name ok item mid new of s in
    let N : Option TextSoFar → Type 0 = λ x. Reads x (rests item) all (new.live.texts h.name) in
    let outside = subst N t.outside reads in
    let W : List (List ℕ) → Type 0 = λ x. Reads None (rests x) (t.whole.0 ∷ []) None in
    let whole = subst W t.is_first t.whole.1 in
    let A : List (List ℕ) → Type 0 = λ x. IsAbout h.name old s.turns x new in
    item_served begun first lines taken s.turns old new h (Some item) items b is t
    (subst A (sym t.is_first) (about_served h.name ok item old (with_held old.held after) new of s (λ other apart. changed_other old.held after other apart)))
    s.held
    (outside_after all t.whole.0 (new.live.texts h.name) (λ more. sym (outside more) ∙ whole more))

pub books_item : (begun : LiveState) (first : ℕ) (lines : List (List ℕ)) (taken : List Turn) (old new : MachineState) (h : Held) (item : HeldItem) (items : List HeldItem) → Books begun first lines taken old → held_of old.held h.name ≡ Some h → h.items ≡ item ∷ items → ServesItem item (record h { items = items }) old new →
    IsOn begun first lines taken new (record h { items = items })
books_item begun first lines taken old new h None items b is first_is serves = item_lost begun first lines taken old new h None items b is first_is serves
books_item begun first lines taken old new h (Some item) items b is first_is serves = lines_served begun first lines taken old new h item items b is first_is serves

pub books_items : (begun : LiveState) (first : ℕ) (lines : List (List ℕ)) (taken : List Turn) (old new : MachineState) (h : Held) (items : List HeldItem) → Books begun first lines taken old → held_of old.held h.name ≡ Some h → h.items ≡ items → ServesItems items h old new →
    IsOn begun first lines taken new (record h { items = [] })
books_items begun first lines taken old new h [] b is none same = grind arith
books_items begun first lines taken old new h (item ∷ items) b is first_is (mid, one, more) =
    let on = books_item begun first lines taken old mid h item items b is first_is one in
    books_items begun first lines taken mid new (record h { items = items }) items on.books on.held_is refl more

-- a name whose items are all served is freed
pub books_freed : (begun : LiveState) (first : ℕ) (lines : List (List ℕ)) (taken : List Turn) (old new : MachineState) (h : Held) (text : OpenText) → Books begun first lines taken old → held_of old.held h.name ≡ Some h → h.items ≡ [] → h.text ≡ text → Frees text h.name old new → Books begun first lines taken new
books_freed begun first lines taken old new h Lost b is none text_is same = let P : MachineState → Type 0 = λ m. Books begun first lines taken m in subst P (sym same) b
books_freed begun first lines taken old new h NoText b is none text_is freed =
    let P : MachineState → Type 0 = λ m. Books begun first lines taken m in
    let F : Option Held → Type 0 = λ x. Follows h.name (begun.texts h.name) (said_by h.name lines) (said_by h.name (heard_lines b.turns)) x (old.live.texts h.name) in
    let ok = b.named h.name h is in
    let it = follow_freed h.name (begun.texts h.name) (said_by h.name lines) (said_by h.name (heard_lines b.turns)) h (old.live.texts h.name) (subst F is (b.said h.name ok)) none text_is in
    let after : MachineState = record old { held = without_name old.held h.name } in
    subst P (sym freed) (books_silent begun first lines [] taken [] old after b h.name
    (record {
      named = ok;
      of = tt;
      makes = record { day = (refl, refl); log = sym (append-nil old.log); told = sym (append-nil old.told); served = tt };
      heard_is = refl;
      held = λ other apart. freed_other old.held h.name other apart;
      read = λ other apart one. ([], λ more. refl);
    })
    (follow_as h.name (begun.texts h.name) (said_by h.name lines) (said_by h.name lines) (said_by h.name (heard_lines b.turns)) (said_by h.name (heard_lines b.turns) ++ []) None (held_of (without_name old.held h.name) h.name) (old.live.texts h.name)
    refl (sym (append-nil (said_by h.name (heard_lines b.turns)))) (sym (freed_own old.held h.name)) it))
books_freed begun first lines taken old new h (Begun text) b is none text_is serves =
    let F : Option Held → Type 0 = λ x. Follows h.name (begun.texts h.name) (said_by h.name lines) (said_by h.name (heard_lines b.turns)) x (old.live.texts h.name) in
    let ok = b.named h.name h is in
    let (of, follows) = follow_text h.name (begun.texts h.name) (said_by h.name lines) (said_by h.name (heard_lines b.turns)) text h (old.live.texts h.name) (subst F is (b.said h.name ok)) none text_is in
    let mid : MachineState = record old { held = without_name old.held h.name } in
    let s = serves_all h.name ok text mid new of serves in
    let (items, reads) = own_read h.name ok text mid new of s in
    let G : Option Held → Type 0 = λ x. Follows h.name (begun.texts h.name) (said_by h.name lines) (said_by h.name (heard_lines b.turns) ++ rests text) x (new.live.texts h.name) in
    let gone : held_of new.held h.name ≡ None = ap (λ hs. held_of hs h.name) s.held ∙ freed_own old.held h.name in
    books_silent begun first lines text taken s.turns old new b h.name
    (about_served h.name ok text old (without_name old.held h.name) new of s (λ other apart. freed_other old.held h.name other apart))
    (subst G (sym gone) (follows (new.live.texts h.name) items reads))

-- all that is held of a name is served
pub books_ended : (begun : LiveState) (first : ℕ) (lines : List (List ℕ)) (taken : List Turn) (old new : MachineState) (name : List ℕ) (held : Option Held) → Books begun first lines taken old → held_of old.held name ≡ held → EndsHold held old new → Books begun first lines taken new
books_ended begun first lines taken old new name None b is same = let P : MachineState → Type 0 = λ m. Books begun first lines taken m in subst P (sym same) b
books_ended begun first lines taken old new name (Some h) b is (mid, items, frees) =
    let P : List ℕ → Type 0 = λ n. held_of old.held n ≡ Some h in
    let on = books_items begun first lines taken old mid h h.items b (subst P (sym (name_of_held old.held name h is)) is) refl items in
    books_freed begun first lines taken mid new (record h { items = [] }) h.text on.books on.held_is refl refl frees
