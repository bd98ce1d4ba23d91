-- Items that were lost, taken and answered at once.
use Rattle.live_machine.proofs.Prelude.{◌≡◌, ℕ, zero, suc, ◌+◌, ◌<◌, List, [], ◌∷◌, ◌++◌, Bool, true, false, Option, Some, None, refl, sym, ap, subst, ◌∙◌, arith, append-nil, append_assoc, replicate, AllByRecursion, repeat, no_memory_text, output_of, for_name, Held, HeldItem, TakesLostOf, held_of, with_held, MachineState, ServesItems, TellsLost, AreServed, ServesNext, ServesOne, ServesSome, TellsLostItems}
use Rattle.live_machine.proofs.HeldLemmas.{name_of_held, same_name}
use Rattle.live_machine.proofs.MachineLemmas.{own_after, same_held}

-- a text once more
pub repeated_more : (n : ℕ) (text : List ℕ) → repeat n text ++ text ≡ repeat (n + 1) text
repeated_more n text = let more : suc n ≡ n + 1 = omega arith in turned n ∙ ap (λ k. repeat k text) more
  where
    turned : (k : ℕ) → repeat k text ++ text ≡ repeat (suc k) text
    turned zero = sym (append-nil text)
    turned (suc k) = append_assoc text (repeat k text) text ∙ ap (λ t. text ++ t) (turned k)

-- what holds of all items holds of those that are left
pub all_left : (P : HeldItem → Type 0) (count : ℕ) (items left : List HeldItem) → items ≡ replicate count None ++ left → AllByRecursion P items → AllByRecursion P left
all_left P count items left is all = after count (subst (AllByRecursion P) is all)
  where
    after : (n : ℕ) → AllByRecursion P (replicate n None ++ left) → AllByRecursion P left
    after zero them = them
    after (suc n) them = after n them.1

-- one item
pub told_once : (old new : MachineState) (name : List ℕ) → TellsLostItems 1 old name new → TellsLost old name new
told_once old new name tells = tells ∙ ap (λ (t : List ℕ). record old { told = old.told ++ t }) (append-nil (output_of (for_name name no_memory_text ∷ [])))

-- no item was lost
pub none_lost : (o : Option Held) (old : List Held) (name : List ℕ) (new : List Held) → held_of old name ≡ o → TakesLostOf o old 0 new → new ≡ old
none_lost o old name new is h2 = grind (arith, same_held)

-- of what is put in the place of a name the last stays
held_twice : (held : List Held) (h : Held) (first last : List HeldItem) → with_held (with_held held (record h { items = first })) (record h { items = last }) ≡ with_held held (record h { items = last })
held_twice [] h first last = refl
held_twice (x ∷ held) h first last = grind (arith, same_name, held_twice held h first last)

-- items that are answered at once are served one after another
told_at_once : (n : ℕ) (left : List HeldItem) (h : Held) (old new : MachineState) → TellsLostItems (suc n) (record old { held = with_held old.held (record h { items = left }) }) h.name new → ServesSome (replicate (suc n) None) left h old new
told_at_once zero left h old new tells = (new, told_once (record old { held = with_held old.held (record h { items = left }) }) new h.name tells, refl)
told_at_once (suc n) left h old new tells =
    let text : List ℕ = output_of (for_name h.name no_memory_text ∷ []) in
    let items : List HeldItem = replicate (suc n) None ++ left in
    let all : List ℕ = repeat (suc n) text in
    let last : Held = record h { items = left } in
    let mid : MachineState = record old { held = with_held old.held (record h { items = items }); told = old.told ++ text } in
    let held : with_held old.held last ≡ with_held mid.held last = sym (held_twice old.held h items left) in
    let told : old.told ++ (text ++ all) ≡ mid.told ++ all = sym (append_assoc old.told text all) in
    (mid, refl, told_at_once n left h mid new (tells ∙ (ap (λ (hs : List Held). record old { held = hs; told = old.told ++ (text ++ all) }) held ∙ ap (λ (t : List ℕ). record old { held = with_held mid.held last; told = t }) told)))

pub lost_served : (o : Option Held) (old new : MachineState) (name : List ℕ) (count : ℕ) (held : List Held) → held_of old.held name ≡ o → 0 < count → TakesLostOf o old.held count held → TellsLostItems count (record old { held = held }) name new → ServesNext true o name old new
lost_served o old new name count held is some taken tells = grind (arith, told_at_once, name_of_held, own_after)

-- the first item is the next one
pub one_next : (went : Bool) (o : Option Held) (old new : MachineState) (name : List ℕ) → ServesOne went o name old new → ServesNext went o name old new
one_next true None old new name one = one
one_next false None old new name one = one
one_next true (Some h) old new name (item, items, first, serves, left) = (item, [], items, first, (new, serves, refl), left)
one_next false (Some h) old new name one = one

-- no item that comes next was lost
pub next_alone : (went : Bool) (old new : MachineState) (name : List ℕ) (held : List Held) → TakesLostOf (held_of old.held name) old.held 0 held → ServesOne went (held_of held name) name (record old { held = held }) new → ServesNext went (held_of old.held name) name old new
next_alone went old new name held taken one = grind (arith, one_next, none_lost)

-- what is left is served after the first ones
of_left : (left : List HeldItem) (h : Held) (items : List HeldItem) (old new : MachineState) → ServesItems left (record h { items = items }) old new → ServesItems left h old new
of_left [] h items old new same = same
of_left (item ∷ left) h items old new rest = rest

of_items : (left : List HeldItem) (h : Held) (items : List HeldItem) (old new : MachineState) → ServesItems left h old new → ServesItems left (record h { items = items }) old new
of_items [] h items old new same = same
of_items (item ∷ left) h items old new rest = rest

some_before : (items left : List HeldItem) (h : Held) (old mid new : MachineState) → ServesSome items left h old mid → ServesItems left h mid new → ServesItems (items ++ left) h old new
some_before [] left h old mid new same rest = subst (λ m. ServesItems left h m new) same rest
some_before (item ∷ items) left h old mid new (after, one, more) rest = (after, one, of_items (items ++ left) h (items ++ left) after new (some_before items left h after mid new more rest))

pub next_before : (o : Option Held) (old mid new : MachineState) (name : List ℕ) → ServesNext true o name old mid → AreServed (held_of mid.held name) name mid new → AreServed o name old new
next_before None old mid new name next rest = tt
next_before (Some h) old mid new name (item, items, left, first, serves, after) rest =
    let P : Option Held → Type 0 = λ o. AreServed o name mid new in
    let more = subst P after rest in
    let Q : List HeldItem → Type 0 = λ its. ServesItems its h old new in
    (subst Q (sym first) (some_before (item ∷ items) left h old mid new serves (of_left left h left mid new more.0)), more.1)
