-- What a machine does with the names that are held.
use Rattle.live_machine.proofs.Prelude.{◌⊎◌, IfSome, OnOk, AllByRecursion, bytes_eq, ◌≡◌, ℕ, List, [], ◌∷◌, ◌&&◌, Bool, true, false, cond, Option, Some, None, refl, sym, ap, subst, ◌∙◌, arith, false≢true, LineForm, ends_text, Item, rest_of, LiveState, asked_of, Says, HearsHeld, HearsIn, HearsForm, Held, HeldItem, HearsOf, IsSaidBy, TakesOf, begins_with_wait, has_items, held_of, is_lost_text, text_of, with_held, without_name, OpenText, NoText, Begun, Lost, is_busy, EndsHold, GivesUp, IsFree, ServesFirst, WaitsAfter, IsLine, MachineState, ServesAll, ServesSaid, TellsLost, must_wait, FreesDone, FreesHeld, HearsHolding, ServesOne, has_wait}
use Rattle.std.specs.Prelude.{Result}
use Rattle.backlog.specs.declared.backlog.Turn.{Turn}
use Rattle.backlog.specs.declared.backlog.Turn.TheVariants.{Lost as LostItem, Nothing as NothingTaken}
use Rattle.live_machine.proofs.HeldLemmas.{changed_own, name_of_held, same_name}
use Rattle.live_machine.proofs.LineLemmas.{said_of}

-- what is served changes nothing that is held
said_held : (b : Bool) (name line : List ℕ) (old new : MachineState) → ServesSaid b name line old new → new.held ≡ old.held
said_held b name line old new one = grind arith

pub all_held : (name : List ℕ) (lines : List (List ℕ)) (old new : MachineState) → ServesAll name lines old new → new.held ≡ old.held
all_held name [] old new same = ap (λ (m : MachineState). m.held) same
all_held name (line ∷ lines) old new (mid, one, rest) = all_held name lines mid new rest ∙ said_held (must_wait old.live name line) name line old mid one

-- what is held of a name afterwards
pub own_after : (held : List Held) (name : List ℕ) (h : Held) (items : List HeldItem) → held_of held name ≡ Some h → held_of (with_held held (record h { items = items })) name ≡ Some (record h { items = items })
own_after held name h items is =
    let same : h.name ≡ name = name_of_held held name h is in
    let P : List ℕ → Type 0 = λ n. held_of held n ≡ Some h in
    ap (λ n. held_of (with_held held (record h { items = items })) n) (sym same) ∙ changed_own held h (record h { items = items }) (subst P (sym same) is)

-- what is put back as it is
pub same_held : (held : List Held) (name : List ℕ) (h : Held) → held_of held name ≡ Some h → with_held held h ≡ held
same_held [] name h is = refl
same_held (x ∷ held) name h is =
    elim (bytes_eq x.name name) as (λ b. bytes_eq x.name name ≡ b → cond b (Some x) (held_of held name) ≡ Some h → with_held (x ∷ held) h ≡ x ∷ held) [
      | true ↦ λ e first.
          let same : x ≡ h = cc in
          ap (λ (y : Held). with_held (x ∷ held) y) (sym same) ∙ ap (λ b. cond b (x ∷ held) (x ∷ with_held held x)) (same_name x.name)
      | false ↦ λ e later.
          let named : h.name ≡ name = name_of_held held name h later in
          ap (λ n. cond (bytes_eq x.name n) (h ∷ held) (x ∷ with_held held h)) named ∙ (ap (λ b. cond b (h ∷ held) (x ∷ with_held held h)) e ∙ ap (λ hs. x ∷ hs) (same_held held name h later))
    ] refl is

-- the first item of a name is taken, of which that is held
abbrev pub IsTakenOf : Option Held → List Held → List ℕ → Turn (List (List ℕ)) → List Held → Type 0
IsTakenOf None old name turn new = (turn ≡ NothingTaken) × (new ≡ old)
IsTakenOf (Some h) old name (Item lines) new = (items : List HeldItem) × (h.items ≡ Some lines ∷ items) × AllByRecursion (IsSaidBy name) lines × (new ≡ with_held old (record h { items = items }))
IsTakenOf (Some h) old name LostItem new = (items : List HeldItem) × (h.items ≡ None ∷ items) × (new ≡ with_held old (record h { items = items }))
IsTakenOf (Some h) old name NothingTaken new = (h.items ≡ []) × (new ≡ old)

pub taken_as : (o : Option Held) (old : List Held) (name : List ℕ) (turn : Turn (List (List ℕ))) (new : List Held) → held_of old name ≡ o → TakesOf o old turn new → IsTakenOf o old name turn new
taken_as o old name turn new is taken = grind (arith, name_of_held, same_held)

pub taken_said : (o : Option Held) (old : List Held) (name : List ℕ) (lines : List (List ℕ)) (new : List Held) → held_of old name ≡ o → TakesOf o old (Item lines) new → AllByRecursion (IsSaidBy name) lines
taken_said o old name lines new is taken = grind (arith, name_of_held)

pub none_taken : (o : Option Held) (old : MachineState) (name : List ℕ) (held : List Held) → held_of old.held name ≡ o → IsTakenOf o old.held name NothingTaken held → ServesOne false o name old (record old { held = held })
none_taken o old name held is h2 = grind arith

-- the first item is served
pub one_item : (o : Option Held) (old new : MachineState) (name : List ℕ) (lines : List (List ℕ)) (held : List Held) → held_of old.held name ≡ o → IsTakenOf o old.held name (Item lines) held → ServesAll name lines (record old { held = held }) new → ServesOne true o name old new
one_item o old new name lines held is taken serves = grind (arith, name_of_held, all_held, own_after)

pub one_lost : (o : Option Held) (old new : MachineState) (name : List ℕ) (held : List Held) → held_of old.held name ≡ o → IsTakenOf o old.held name LostItem held → TellsLost (record old { held = held }) name new → ServesOne true o name old new
one_lost o old new name held is taken tells = grind (arith, name_of_held, own_after)

-- a name is freed
abbrev pub FreesAs : OpenText → List ℕ → MachineState → MachineState → Type 0
FreesAs (Begun lines) name mid new = ServesAll name lines mid new
FreesAs text name mid new = new ≡ mid

pub frees_by : (o : Option Held) (old new : MachineState) (name : List ℕ) (text : OpenText) (held : List Held) → held_of old.held name ≡ o → IfSome o (λ h. text ≡ h.text) → IfSome o (λ h. is_lost_text h.text ≡ false) → held ≡ without_name old.held name → FreesAs text name (record old { held = held }) new → FreesHeld o old new
frees_by o old new name text held is same kept left freed = grind (arith, name_of_held)

pub text_if : (o : Option Held) (text : OpenText) → text ≡ text_of o → IfSome o (λ h. text ≡ h.text)
text_if o text is = grind arith

pub on_ok : {A E : Type 0} {P Q : Type 0} → (r : Result A E) → (P → Q) → OnOk r P → OnOk r Q
on_ok r f p = grind arith

pub if_some : {P Q : Held → Type 0} → (o : Option Held) → ((h : Held) → P h → Q h) → IfSome o P → IfSome o Q
if_some o f p = grind arith

pub freed_as : (t : OpenText) (name : List ℕ) (mid : MachineState) → (t ≡ NoText) ⊎ (t ≡ Lost) → FreesAs t name mid mid
freed_as t name mid h1 = grind arith

-- the first item of a name is served, as it need not wait
is_free : (live : LiveState) (name own : List ℕ) (item : HeldItem) (items : List HeldItem) → own ≡ name → (begins_with_wait (item ∷ items) && is_busy live name) ≡ false → IsFree live own item
is_free live name own item items same free = grind arith

pub first_served : (o : Option Held) (old mid new : MachineState) (name : List ℕ) → held_of old.held name ≡ o → IfSome o (λ h. (begins_with_wait h.items && is_busy old.live name) ≡ false) → ServesOne true o name old mid → FreesDone (held_of mid.held name) mid new →
    (h : Held) × (held_of old.held name ≡ Some h) × ServesFirst h.items h old new
first_served None old mid new name is free one done = absurd (cc)
first_served (Some h) old mid new name is free (item, items, first, serves, left) done = grind (arith, name_of_held old.held name h is)

pub gave_up : (o : Option Held) (old mid new : MachineState) (name : List ℕ) (turn : Turn (List (List ℕ))) (held : List Held) → held_of old.held name ≡ o → has_wait o ≡ true → IsTakenOf o old.held name turn held → TellsLost (record old { held = held }) name mid → FreesDone (held_of mid.held name) mid new →
    (h : Held) × (held_of old.held name ≡ Some h) × GivesUp h.items h old new
gave_up None old mid new name turn held is waits taken tells done = absurd (false≢true waits)
gave_up (Some h) old mid new name LostItem held is waits (items, first, changed) tells done = grind arith
gave_up (Some h) old mid new name NothingTaken held is waits (none, same) tells done = grind arith
gave_up (Some h) old mid new name (Item lines) held is waits (items, first, said, changed) tells done = grind (arith, own_after old.held name h items is, name_of_held old.held name h is)

no_items : (items : List HeldItem) → has_items items ≡ false → items ≡ []
no_items items e = grind arith

after_own : (held : List Held) (name : List ℕ) (h after : Held) → held_of held name ≡ Some h → after.name ≡ h.name → held_of (with_held held after) name ≡ Some after
after_own held name h after is same = grind (arith, name_of_held, changed_own)

form_name : (form : LineForm) (old : Held) (line : List ℕ) (new : Held) → HearsForm form old line new → new.name ≡ old.name
form_name form old line new is = grind arith

in_name : (text : OpenText) (ends : Bool) (old : Held) (line : List ℕ) (new : Held) → HearsIn text ends old line new → new.name ≡ old.name
in_name text ends old line new is = grind arith

heard_name : (old : Held) (line : List ℕ) (new : Held) → HearsHeld old line new → new.name ≡ old.name
heard_name old line new is = in_name old.text (ends_text (rest_of line)) old line new is

pub heard_last : (o : Option Held) (old new : MachineState) (name line : List ℕ) (held : List Held) (had : Bool) → held_of old.held name ≡ o → IfSome o (λ h. had ≡ has_items h.items) → had ≡ false → HearsOf o old.held line held → EndsHold (held_of held name) (record old { held = held }) new → HearsHolding false o name line old new
heard_last None old new name line held had is items none hears ends = tt
heard_last (Some h) old new name line held had is items none (after, heard, changed) ends =
    let same : after.name ≡ h.name = heard_name h line after heard in
    let P : List Held → Type 0 = λ hs. EndsHold (held_of hs name) (record old { held = hs }) new in
    let Q : Option Held → Type 0 = λ o. EndsHold o (record old { held = with_held old.held after }) new in
    let W : List HeldItem → Type 0 = λ its. WaitsAfter its after (record old { held = with_held old.held after }) new in
    (after, heard, subst W (sym (no_items h.items (sym items ∙ none))) (subst Q (after_own old.held name h after is same) (subst P changed ends)))

pub is_said : (name said line : List ℕ) → IsLine line → asked_of line ≡ Says name said → IsSaidBy name line
is_said name said line is asks = record { kept = is.kept; one = is.one; says = asks ∙ ap (λ r. Says name r) (sym (said_of name said line asks).2) }

-- a line that ends what its name waits for
pub called_off : (o : Option Held) (old mid new : MachineState) (name line : List ℕ) → EndsHold o old mid → ServesSaid (must_wait mid.live name line) name line mid new → HearsHolding true o name line old new
called_off o old mid new name line ends serves = grind arith

pub ok_so : {A E : Type 0} {Q : Type 0} → (r : Result A E) → Q → OnOk r Q
ok_so r q = grind arith
