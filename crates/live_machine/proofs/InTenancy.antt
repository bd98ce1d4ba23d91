-- What a held name said is served in the tenancy in which it was said.
use Rattle.live_machine.proofs.Prelude.{◌≡◌, ◌≢◌, inl, inr, ℕ, List, [], ◌∷◌, ◌++◌, codes, Bool, true, false, Option, Some, None, is_some, refl, sym, ap, subst, ◌∙◌, arith, bytes_eq, is_name, OperatorLine, Admit, Evict, Move, Owners, Step, Take, Put, ends_text, last_id, takeable_in, History, live_of, rest_of, said_by, Asked, LiveState, asked_of, Echoes, Figures, NoForm, Nothing, Operates, Says, says, is_nobodys, lines_in, Held, HeldItem, HearsIn, calls_off, held_of, with_held, without_name, OpenText, NoText, Begun, Lost, EndsHold, Frees, FreesIf, GivesUp, HearsAfter, HearsAsked, HearsFree, HearsName, Holds, MachineState, Serves, ServesAll, ServesFirst, ServesItem, ServesItems, ServesNobodys, ServesSaid, TellsLost, WaitsAfter, begins_with, is_busy, is_by_hand, must_wait, Drain, GiveUp, Line, PutStep, ServeHeld, Turn, heard_lines}
use Rattle.script_text.specs.declared.operator_line.OperatorLine.TheVariants.{List as ListAll}
use Rattle.live_machine.specs.Machine.{Call, Happens, Run}
use Rattle.live_machine.proofs.AccountLemmas.{Accounts, happened, heard_name, starts}
use Rattle.live_machine.proofs.AliveLemmas.{alive}
use Rattle.live_machine.proofs.Books.{Books, books_nobody}
use Rattle.live_machine.proofs.FollowLemmas.{AreOf, Follows, IsOf}
use Rattle.live_machine.proofs.TakeLemmas.{follow_text}
use Rattle.live_machine.proofs.HeldLemmas.{added_other, added_own, changed_other, changed_own, freed_other, freed_own, name_of_held, one_name}
use Rattle.live_machine.proofs.ItemBooks.{IsOn, books_item, books_items, item_lost, taken_of}
use Rattle.live_machine.proofs.LineLemmas.{must_wait_so, said_of}
use Rattle.live_machine.proofs.NameBooks.{books_heard}
use Rattle.live_machine.proofs.TenancyLemmas.{IsNoEviction, Keeps, is_live, keeps_same, line_keeps}

-- what is held of the name was said in the tenancy that it has, which is live
abbrev pub IsIn : MachineState → List ℕ → Type 0
IsIn now name = (h : Held) → held_of now.held name ≡ Some h → h.items ≢ [] → (h.id ≡ last_id now.live.stage.names name) × (is_live now.live.stage name ≡ true)

in_keeps : (old new : MachineState) (name : List ℕ) → IsIn old name → held_of new.held name ≡ held_of old.held name → (is_live old.live.stage name ≡ true → Keeps name old.live.stage new.live.stage) → IsIn new name
in_keeps old new name was held keeps h is some = grind arith

-- lines of one name, that evict nobody: what is held of others stays, and each live name keeps its
-- tenancy
pub record Passes (name : List ℕ) (old new : MachineState) : Type 0 where
  pub held : (other : List ℕ) → bytes_eq name other ≡ false → held_of new.held other ≡ held_of old.held other
  pub keeps : (other : List ℕ) → is_live old.live.stage other ≡ true → Keeps other old.live.stage new.live.stage

passes_others : (name : List ℕ) (old new : MachineState) → Passes name old new → (other : List ℕ) → bytes_eq name other ≡ false → IsIn old other → IsIn new other
passes_others name old new p other apart was = in_keeps old new other was (p.held other apart) (p.keeps other)

passes_both : (name : List ℕ) (old mid new : MachineState) → Passes name old mid → Passes name mid new → Passes name old new
passes_both name old mid new first more = grind arith

-- what is held stays, and each live name keeps its tenancy
pub record Stays (old new : MachineState) : Type 0 where
  pub held : new.held ≡ old.held
  pub keeps : (other : List ℕ) → is_live old.live.stage other ≡ true → Keeps other old.live.stage new.live.stage

stays_as : (old new : MachineState) → new.held ≡ old.held → new.live.stage ≡ old.live.stage → Stays old new
stays_as old new held stage = record { held = held; keeps = λ other live. keeps_same other old.live.stage new.live.stage live stage }

stays_same : (old new : MachineState) → new ≡ old → Stays old new
stays_same old new same = stays_as old new (ap (λ (m : MachineState). m.held) same) (ap (λ (m : MachineState). m.live.stage) same)

lost_stays : (name : List ℕ) (old new : MachineState) → TellsLost old name new → Stays old new
lost_stays name old new lost = stays_as old new (ap (λ (m : MachineState). m.held) lost) (ap (λ (m : MachineState). m.live.stage) lost)

stays_in : (old new : MachineState) → Stays old new → ((other : List ℕ) → IsIn old other) → (other : List ℕ) → IsIn new other
stays_in old new s all other = in_keeps old new other (all other) (ap (λ hs. held_of hs other) s.held) (s.keeps other)

stays_passes : (name : List ℕ) (old new : MachineState) → Stays old new → Passes name old new
stays_passes name old new s = record { held = λ other apart. ap (λ hs. held_of hs other) s.held; keeps = s.keeps }

-- lines that evict nobody
line_stays : (old new : MachineState) (line : List ℕ) → ((other : List ℕ) → IsNoEviction other (asked_of line)) → Serves old line new → Stays old new
line_stays old new line stays s = search (line_keeps, arith)

says_no_eviction : (name said line : List ℕ) → asked_of line ≡ Says name said → (other : List ℕ) → IsNoEviction other (asked_of line)
says_no_eviction name said line is other = let P : Asked → Type 0 = IsNoEviction other in subst P (sym is) tt

said_stays : (name : List ℕ) → is_name name ≡ true → (line : List ℕ) (waits : Bool) (old new : MachineState) → IsOf name line → ServesSaid waits name line old new → Stays old new
said_stays name ok line false old new of serves = line_stays old new line (says_no_eviction name (rest_of line) line (says name line ok of)) serves
said_stays name ok line true old new of (made, asks, serves) = line_stays old new made (says_no_eviction name (codes "status") made asks.0) serves

all_stay : (name : List ℕ) → is_name name ≡ true → (lines : List (List ℕ)) (old new : MachineState) → AreOf name lines → ServesAll name lines old new → Stays old new
all_stay name ok [] old new of same = stays_same old new same
all_stay name ok (line ∷ lines) old new of (mid, one, rest) = grind (arith, said_stays, all_stay name ok lines mid new of.1 rest)

-- what is held of that name changes, and then nothing more
changed_passes : (old new : MachineState) (after : Held) → Stays (record old { held = with_held old.held after }) new → Passes after.name old new
changed_passes old new after s = grind (arith, changed_other)

-- an item
item_passes : (begun : LiveState) (first : ℕ) (lines : List (List ℕ)) (taken : List Turn) (old new : MachineState) (h : Held) (item : HeldItem) (items : List HeldItem) → Books begun first lines taken old → held_of old.held h.name ≡ Some h → h.items ≡ item ∷ items → ServesItem item (record h { items = items }) old new → Passes h.name old new
item_passes begun first lines taken old new h None items b is first_is lost = search (changed_passes, lost_stays, arith)
item_passes begun first lines taken old new h (Some item) items b is first_is serves =
    let t = taken_of begun first lines taken old h (Some item) items b is first_is in
    let O : List (List ℕ) → Type 0 = AreOf h.name in
    changed_passes old new (record h { items = items }) (all_stay h.name (b.named h.name h is) item (record old { held = with_held old.held (record h { items = items }) }) new (subst O t.is_first t.of) serves)

some_same : (a b : Held) → Some a ≡ Some b → a ≡ b
some_same a b e = cc

-- what is left of the name
left_in : (old new : MachineState) (h : Held) (item : HeldItem) (items : List HeldItem) → held_of old.held h.name ≡ Some h → h.items ≡ item ∷ items → held_of new.held h.name ≡ Some (record h { items = items }) → Passes h.name old new → IsIn old h.name → IsIn new h.name
left_in old new h item items is first_is left p was after after_is some = grind arith

-- items, one after another
items_pass : (begun : LiveState) (first : ℕ) (lines : List (List ℕ)) (taken : List Turn) (old new : MachineState) (h : Held) (items : List HeldItem) → Books begun first lines taken old → held_of old.held h.name ≡ Some h → h.items ≡ items → ServesItems items h old new → Passes h.name old new
items_pass begun first lines taken old new h [] b is none same = stays_passes h.name old new (stays_same old new same)
items_pass begun first lines taken old new h (item ∷ items) b is first_is (mid, one, more) =
    let on = books_item begun first lines taken old mid h item items b is first_is one in
    passes_both h.name old mid new (item_passes begun first lines taken old mid h item items b is first_is one) (items_pass begun first lines taken mid new (record h { items = items }) items on.books on.held_is refl more)

none_some : (h : Held) → None ≡ Some h → ⊥
none_some h e = absurd (cc)

-- a hold ends: afterwards the name has no items
pub record Ended (name : List ℕ) (old new : MachineState) : Type 0 where
  pub passes : Passes name old new
  pub empty : (after : Held) → held_of new.held name ≡ Some after → after.items ≡ []

gone_ended : (name : List ℕ) (old new : MachineState) → Stays (record old { held = without_name old.held name }) new → Ended name old new
gone_ended name old new s = grind (arith, freed_other, freed_own)

frees_ended : (begun : LiveState) (first : ℕ) (lines : List (List ℕ)) (taken : List Turn) (old new : MachineState) (h : Held) (text : OpenText) → Books begun first lines taken old → held_of old.held h.name ≡ Some h → h.items ≡ [] → h.text ≡ text → Frees text h.name old new → Ended h.name old new
frees_ended begun first lines taken old new h Lost b is none text_is same = grind arith
frees_ended begun first lines taken old new h NoText b is none text_is freed = gone_ended h.name old new (stays_same (record old { held = without_name old.held h.name }) new freed)
frees_ended begun first lines taken old new h (Begun text) b is none text_is serves =
    let F : Option Held → Type 0 = λ x. Follows h.name (begun.texts h.name) (said_by h.name lines) (said_by h.name (heard_lines b.turns)) x (old.live.texts h.name) in
    let ok = b.named h.name h is in
    let (of, follows) = follow_text h.name (begun.texts h.name) (said_by h.name lines) (said_by h.name (heard_lines b.turns)) text h (old.live.texts h.name) (subst F is (b.said h.name ok)) none text_is in
    gone_ended h.name old new (all_stay h.name ok text (record old { held = without_name old.held h.name }) new of serves)

ends_hold : (begun : LiveState) (first : ℕ) (lines : List (List ℕ)) (taken : List Turn) (old new : MachineState) (h : Held) → Books begun first lines taken old → held_of old.held h.name ≡ Some h → EndsHold (Some h) old new → Ended h.name old new
ends_hold begun first lines taken old new h b is (mid, items, frees) =
    let on = books_items begun first lines taken old mid h h.items b is refl items in
    let ended = frees_ended begun first lines taken mid new (record h { items = [] }) h.text on.books on.held_is refl refl frees in
    record { passes = passes_both h.name old mid new (items_pass begun first lines taken old mid h h.items b is refl items) ended.passes; empty = ended.empty }

-- an own name without items is in no wrong tenancy
ended_in : (name : List ℕ) (old new : MachineState) → Ended name old new → ((other : List ℕ) → bytes_eq name other ≡ false → IsIn old other) → (other : List ℕ) → IsIn new other
ended_in name old new e others other =
    elim (bytes_eq name other) as (λ b. bytes_eq name other ≡ b → IsIn new other) [
      | true ↦ λ same.
          let P : List ℕ → Type 0 = IsIn new in
          subst P (one_name name other same) (λ h is some. absurd (some (e.empty h is)))
      | false ↦ λ apart. passes_others name old new e.passes other apart (others other apart)
    ] refl

ended_if : (begun : LiveState) (first : ℕ) (lines : List (List ℕ)) (taken : List Turn) (old new : MachineState) (name : List ℕ) (held : Option Held) → Books begun first lines taken old → held_of old.held name ≡ held → EndsHold held old new → ((other : List ℕ) → bytes_eq name other ≡ false → IsIn old other) → (other : List ℕ) → IsIn new other
ended_if begun first lines taken old new name (Some h) b is ends others =
    let P : List ℕ → Type 0 = λ n. held_of old.held n ≡ Some h in
    let Q : List ℕ → Type 0 = λ n. Ended n old new in
    let named = name_of_held old.held name h is in
    ended_in name old new (subst Q named (ends_hold begun first lines taken old new h b (subst P (sym named) is) ends)) others
ended_if begun first lines taken old new name None b is same others =
    ended_in name old new
    (record {
      passes = stays_passes name old new (stays_same old new same);
      empty = λ after after_is. absurd (none_some after (sym (ap (λ (m : MachineState). held_of m.held name) same ∙ is) ∙ after_is));
    }) others

-- a name that has its turn
frees_in : (begun : LiveState) (first : ℕ) (lines : List (List ℕ)) (taken : List Turn) (old new : MachineState) (items : List HeldItem) (h : Held) → IsOn begun first lines taken old h → h.items ≡ items → FreesIf items h old new → ((other : List ℕ) → IsIn old other) → (other : List ℕ) → IsIn new other
frees_in begun first lines taken old new [] h on none frees all =
    ended_in h.name old new (frees_ended begun first lines taken old new h h.text on.books on.held_is none refl frees) (λ other apart. all other)
frees_in begun first lines taken old new (item ∷ items) h on is same all = let P : MachineState → Type 0 = λ m. (other : List ℕ) → IsIn m other in subst P (sym same) all

item_in : (old new : MachineState) (h : Held) (item : HeldItem) (items : List HeldItem) → held_of old.held h.name ≡ Some h → h.items ≡ item ∷ items → held_of new.held h.name ≡ Some (record h { items = items }) → Passes h.name old new → ((other : List ℕ) → IsIn old other) → (other : List ℕ) → IsIn new other
item_in old new h item items is first_is left p all other = search (one_name, arith)

first_in : (begun : LiveState) (first : ℕ) (lines : List (List ℕ)) (taken : List Turn) (old new : MachineState) (h : Held) (items : List HeldItem) → Books begun first lines taken old → held_of old.held h.name ≡ Some h → h.items ≡ items → ServesFirst items h old new → ((other : List ℕ) → IsIn old other) → (other : List ℕ) → IsIn new other
first_in begun first lines taken old new h [] b is none serves all = absurd serves
first_in begun first lines taken old new h (item ∷ items) b is first_is (mid, free, serves, frees) all =
    let on = books_item begun first lines taken old mid h item items b is first_is serves in
    frees_in begun first lines taken mid new items (record h { items = items }) on refl frees
    (item_in old mid h item items is first_is on.held_is (item_passes begun first lines taken old mid h item items b is first_is serves) all)

given_in : (begun : LiveState) (first : ℕ) (lines : List (List ℕ)) (taken : List Turn) (old new : MachineState) (h : Held) (items : List HeldItem) → Books begun first lines taken old → held_of old.held h.name ≡ Some h → h.items ≡ items → GivesUp items h old new → ((other : List ℕ) → IsIn old other) → (other : List ℕ) → IsIn new other
given_in begun first lines taken old new h [] b is none gives all = absurd gives
given_in begun first lines taken old new h (None ∷ items) b is first_is gives all = absurd gives
given_in begun first lines taken old new h (Some item ∷ items) b is first_is (mid, waits, lost, frees) all =
    let after : Held = record h { items = items } in
    let on = item_lost begun first lines taken old mid h (Some item) items b is first_is lost in
    let passes = changed_passes old mid after (lost_stays h.name (record old { held = with_held old.held after }) mid lost) in
    frees_in begun first lines taken mid new items after on refl frees (item_in old mid h (Some item) items is first_is on.held_is passes all)

-- a `wait` holds its name
takeable_live : (h : Option History) → takeable_in h ≡ true → is_some h ≡ true
takeable_live h takeable = grind arith

busy_live : (live : LiveState) (name : List ℕ) → is_busy live name ≡ true → is_live live.stage name ≡ true
busy_live live name busy = takeable_live (live_of live.stage.service.histories (last_id live.stage.names name)) busy

held_in : (old new : MachineState) (name line : List ℕ) → held_of old.held name ≡ None → must_wait old.live name line ≡ true → Holds name line old new → ((other : List ℕ) → IsIn old other) → (other : List ℕ) → IsIn new other
held_in old new name line free waits (inr lost) all other = stays_in old new (lost_stays name old new lost) all other
held_in old new name line free waits (inl held) all other =
    let h : Held = record { name = name; id = last_id old.live.stage.names name; items = Some (line ∷ []) ∷ []; text = NoText } in
    let stage : new.live.stage ≡ old.live.stage = ap (λ (m : MachineState). m.live.stage) held in
    elim (bytes_eq name other) as (λ b. bytes_eq name other ≡ b → IsIn new other) [
      | true ↦ λ same.
          let P : List ℕ → Type 0 = IsIn new in
          subst P (one_name name other same) (λ after after_is some.
          let it : after ≡ h = some_same after h (sym after_is ∙ (ap (λ (m : MachineState). held_of m.held name) held ∙ added_own old.held h free)) in
          let (outside, wait, busy) = must_wait_so old.live name line waits in
          (ap (λ (x : Held). x.id) it ∙ sym (ap (λ s. last_id s.names name) stage), ap (λ s. is_live s name) stage ∙ busy_live old.live name busy))
      | false ↦ λ apart. in_keeps old new other (all other) (ap (λ (m : MachineState). held_of m.held other) held ∙ added_other old.held h other apart) (λ live. keeps_same other old.live.stage new.live.stage live stage)
    ] refl

heard_id : (text : OpenText) (ends : Bool) (h new : Held) (line : List ℕ) → HearsIn text ends h line new → new.id ≡ h.id
heard_id text ends h new line hears = grind arith

-- what was held of the name is held on with a further line
after_in : (old : MachineState) (name : List ℕ) (h after : Held) (item : HeldItem) (items : List HeldItem) → held_of old.held name ≡ Some h → after.name ≡ name → after.id ≡ h.id → h.items ≡ item ∷ items → ((other : List ℕ) → IsIn old other) → (other : List ℕ) → IsIn (record old { held = with_held old.held after }) other
after_in old name h after item items is named id first_is all other = grind (arith, one_name, changed_own, changed_other)

waits_in : (begun : LiveState) (first : ℕ) (lines : List (List ℕ)) (taken : List Turn) (old new : MachineState) (name : List ℕ) (h after : Held) (items : List HeldItem) → Books begun first lines taken (record old { held = with_held old.held after }) → held_of old.held name ≡ Some h → after.name ≡ name → after.id ≡ h.id → h.items ≡ items → WaitsAfter items after (record old { held = with_held old.held after }) new → ((other : List ℕ) → IsIn old other) → (other : List ℕ) → IsIn new other
waits_in begun first lines taken old new name h after (item ∷ items) b is named id first_is same all =
    let P : MachineState → Type 0 = λ m. (other : List ℕ) → IsIn m other in
    subst P (sym same) (after_in old name h after item items is named id first_is all)
waits_in begun first lines taken old new name h after [] b is named id none ends all =
    let N : List ℕ → Type 0 = λ n. held_of old.held n ≡ Some h in
    ended_in after.name (record old { held = with_held old.held after }) new
    (ends_hold begun first lines taken (record old { held = with_held old.held after }) new after b (changed_own old.held h after (subst N (sym named) is)) ends)
    (λ other apart. in_keeps old (record old { held = with_held old.held after }) other (all other) (changed_other old.held after other apart) (λ live. keeps_same other old.live.stage old.live.stage live refl))

named_in : (begun : LiveState) (first : ℕ) (lines : List (List ℕ)) (taken : List Turn) (old new : MachineState) (name line : List ℕ) (h : Held) (off : Bool) → Books begun first lines taken old → is_name name ≡ true → IsOf name line → held_of old.held name ≡ Some h → HearsAfter off h name line old new → ((other : List ℕ) → IsIn old other) → (other : List ℕ) → IsIn new other
named_in begun first lines taken old new name line h true b ok of is (mid, ends, serves) all =
    stays_in mid new (said_stays name ok line (must_wait mid.live name line) mid new of serves) (ended_if begun first lines taken old mid name (Some h) b is ends (λ other apart. all other))
named_in begun first lines taken old new name line h false b ok of is (after, hears, waits) all =
    let named : after.name ≡ name = heard_name h.text (ends_text (rest_of line)) h after line hears ∙ name_of_held old.held name h is in
    let mid : MachineState = record old { held = with_held old.held after } in
    waits_in begun first (lines ++ line ∷ []) taken old new name h after h.items (books_heard begun first lines taken old mid line name h after b ok of is named hears refl) is named (heard_id h.text (ends_text (rest_of line)) h after line hears) refl waits all

free_in : (old new : MachineState) (name line : List ℕ) (waits : Bool) → is_name name ≡ true → IsOf name line → held_of old.held name ≡ None → must_wait old.live name line ≡ waits → HearsFree waits name line old new → ((other : List ℕ) → IsIn old other) → (other : List ℕ) → IsIn new other
free_in old new name line true ok of free waits held all = held_in old new name line free waits held all
free_in old new name line false ok of free waits serves all = stays_in old new (said_stays name ok line false old new of serves) all

name_in : (begun : LiveState) (first : ℕ) (lines : List (List ℕ)) (taken : List Turn) (old new : MachineState) (name line : List ℕ) (held : Option Held) → Books begun first lines taken old → is_name name ≡ true → IsOf name line → held_of old.held name ≡ held → HearsName held name line old new → ((other : List ℕ) → IsIn old other) → (other : List ℕ) → IsIn new other
name_in begun first lines taken old new name line (Some h) b ok of is hears all = named_in begun first lines taken old new name line h (calls_off h.text line) b ok of is hears all
name_in begun first lines taken old new name line None b ok of is hears all = free_in old new name line (must_wait old.live name line) ok of is refl hears all

-- a line that evicts nobody, of no name
nobody_in : (old new : MachineState) (line : List ℕ) (by_hand : Bool) → ((other : List ℕ) → IsNoEviction other (asked_of line)) → ServesNobodys by_hand line old new → ((other : List ℕ) → IsIn old other) → (other : List ℕ) → IsIn new other
nobody_in old new line false stays serves all = stays_in old new (line_stays old new line stays serves) all
nobody_in old new line true stays (made, asks, serves) all = search arith

operator_in : (begun : LiveState) (first : ℕ) (lines : List (List ℕ)) (taken : List Turn) (old new : MachineState) (line : List ℕ) (asked : OperatorLine (List ℕ)) → Books begun first lines taken old → asked_of line ≡ Operates asked → HearsAsked (Operates asked) line old new → ((other : List ℕ) → IsIn old other) → (other : List ℕ) → IsIn new other
operator_in begun first lines taken old new line (Evict name) b is (mid, serves, ends) all =
    let served = books_nobody begun first lines taken old mid line false b (ap is_nobodys is) (ap is_by_hand is) serves in
    ended_if begun first (lines ++ line ∷ []) taken mid new name (held_of mid.held name) served refl ends
    (λ other apart.
    let P : Asked → Type 0 = IsNoEviction other in
    in_keeps old mid other (all other) (ap (λ (m : MachineState). held_of m.held other) serves.rest)
    (λ live. line_keeps other old.live old.next line serves.reply mid.live (subst P (sym is) apart) live serves.answers))
operator_in begun first lines taken old new line (Step name count) b is serves all = nobody_in old new line true (λ other. let P : Asked → Type 0 = IsNoEviction other in subst P (sym is) tt) serves all
operator_in begun first lines taken old new line (Take name) b is serves all = nobody_in old new line true (λ other. let P : Asked → Type 0 = IsNoEviction other in subst P (sym is) tt) serves all
operator_in begun first lines taken old new line (Put number) b is serves all = nobody_in old new line true (λ other. let P : Asked → Type 0 = IsNoEviction other in subst P (sym is) tt) serves all
operator_in begun first lines taken old new line (Admit name width) b is serves all = nobody_in old new line false (λ other. let P : Asked → Type 0 = IsNoEviction other in subst P (sym is) tt) serves all
operator_in begun first lines taken old new line (Move name offset) b is serves all = nobody_in old new line false (λ other. let P : Asked → Type 0 = IsNoEviction other in subst P (sym is) tt) serves all
operator_in begun first lines taken old new line ListAll b is serves all = nobody_in old new line false (λ other. let P : Asked → Type 0 = IsNoEviction other in subst P (sym is) tt) serves all
operator_in begun first lines taken old new line Owners b is serves all = nobody_in old new line false (λ other. let P : Asked → Type 0 = IsNoEviction other in subst P (sym is) tt) serves all

line_in : (begun : LiveState) (first : ℕ) (lines : List (List ℕ)) (taken : List Turn) (old new : MachineState) (line : List ℕ) (asked : Asked) → Books begun first lines taken old → asked_of line ≡ asked → HearsAsked asked line old new → ((other : List ℕ) → IsIn old other) → (other : List ℕ) → IsIn new other
line_in begun first lines taken old new line Nothing b is serves all = nobody_in old new line false (λ other. let P : Asked → Type 0 = IsNoEviction other in subst P (sym is) tt) serves all
line_in begun first lines taken old new line NoForm b is serves all = nobody_in old new line false (λ other. let P : Asked → Type 0 = IsNoEviction other in subst P (sym is) tt) serves all
line_in begun first lines taken old new line (Echoes words) b is serves all = nobody_in old new line false (λ other. let P : Asked → Type 0 = IsNoEviction other in subst P (sym is) tt) serves all
line_in begun first lines taken old new line Figures b is serves all = nobody_in old new line false (λ other. let P : Asked → Type 0 = IsNoEviction other in subst P (sym is) tt) serves all
line_in begun first lines taken old new line (Operates asked) b is hears all = operator_in begun first lines taken old new line asked b is hears all
line_in begun first lines taken old new line (Says name said) b is hears all =
    let (of, ok, rest) = said_of name said line is in
    name_in begun first lines taken old new name line (held_of old.held name) b ok of refl hears all

-- each call, and all calls
call_in : (begun : LiveState) (first : ℕ) (lines : List (List ℕ)) (taken : List Turn) (old new : MachineState) (call : Call) → Books begun first lines taken old → Happens old call new → ((other : List ℕ) → IsIn old other) → (other : List ℕ) → IsIn new other
call_in begun first lines taken old new (Line line) b hears all = line_in begun first lines taken old new line (asked_of line) b refl hears all
call_in begun first lines taken old new (ServeHeld name) b (h, is, serves) all =
    let P : List ℕ → Type 0 = λ n. held_of old.held n ≡ Some h in
    first_in begun first lines taken old new h h.items b (subst P (sym (name_of_held old.held name h is)) is) refl serves all
call_in begun first lines taken old new (GiveUp name) b (h, is, gives) all =
    let P : List ℕ → Type 0 = λ n. held_of old.held n ≡ Some h in
    given_in begun first lines taken old new h h.items b (subst P (sym (name_of_held old.held name h is)) is) refl gives all
call_in begun first lines taken old new (PutStep name) b (made, asks, works) all =
    λ other. in_keeps old new other (all other) (ap (λ (m : MachineState). held_of m.held other) works.rest)
    (λ live. let P : Asked → Type 0 = IsNoEviction other in line_keeps other old.live old.next made works.reply new.live (subst P (sym asks) tt) live works.answers)
call_in begun first lines taken old new (Drain log told) b (log_is, told_is, drained) all = let P : MachineState → Type 0 = λ m. (other : List ℕ) → IsIn m other in subst P (sym drained) all

calls_in : (begun : LiveState) (first : ℕ) (before calls : List Call) (old new : MachineState) → Accounts begun first before old → Run old calls new → ((other : List ℕ) → IsIn old other) → (other : List ℕ) → IsIn new other
calls_in begun first before [] old new a same all = let P : MachineState → Type 0 = λ m. (other : List ℕ) → IsIn m other in subst P (sym same) all
calls_in begun first before (call ∷ calls) old new a (mid, one, rest) all = grind (arith, calls_in begun first (before ++ call ∷ []) calls mid new (happened begun first before old mid call a one) rest (call_in begun first (lines_in before) a.taken old mid call a.books one all))

pub in_tenancy : (begun : LiveState) (first : ℕ) (calls : List Call) (now : MachineState) (name : List ℕ) (h : Held) → Run (begins_with begun first) calls now → held_of now.held name ≡ Some h → h.items ≢ [] →
    (h.id ≡ last_id now.live.stage.names name) × (is_some (live_of now.live.stage.service.histories h.id) ≡ true)
in_tenancy begun first calls now name h run is some =
    let (id, live) = calls_in begun first [] calls (begins_with begun first) now (starts begun first) run (λ other x x_is. absurd (none_some x x_is)) name h is some in
    (id, ap (alive now.live.stage.service.histories) id ∙ live)
