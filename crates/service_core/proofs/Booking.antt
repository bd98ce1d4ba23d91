-- Each call keeps the book exact.
use Rattle.service_core.proofs.Prelude.{◌≡◌, ◌≢◌, inl, inr, ℕ, ◌+◌, ◌-◌, ◌<◌, ◌≤◌, List, [], ◌∷◌, ◌++◌, length, get_or, map, Bool, true, false, eqb, Result, Ok, Err, Option, Some, None, refl, sym, ap, ◌∙◌, subst, arith, All, option_map, if◌then◌else◌, AllocError, set, Decides-eqb, false≢true, All-head, All-tail, none-some, same_Some, Arch, Strip, Resource, has, is_there, moved_resource, PlacedStrip, IsParted, offset_of, strip_of, strips_without, Owned, AreOwned, IsFree, ListsOwners, Owners, Releases, StandIn, extent_of, owner_of, JobStep, JobState, Command as Asked, Reply, StepReply, Advanced, Finished, Stale, NotAnswered, routed_set, State, start, step, Device, Entry, History, state_of, with_entry, with_here, AreParted, AreAlone, IsAloneOn, ServiceState, admitted_history, history_of, live_of, live_width, with_changed, placed_width, strip_on, step_entry, HasOneOwner, ListsOwnersOf, GivesHistoryBack, GivesUp, GivesUpOrKeeps, PutsHistory, ServesHistory, StandsIn, TakesHistory, closed_history, if_live, AreFree, IsLiveIn, IsSound, KeepsBook, TakesUp, held_at}
use Rattle.tenant_slot.specs.declared.command.Command.{Command}
use Rattle.service_core.proofs.Lists.{All-history_of}
use Rattle.service_core.proofs.Histories.{state_after-push}
use Rattle.service_core.proofs.Keeps.{IsService-admitted, IsService-evicted, if_live_some, live_is, set-kept, set-live}
use Rattle.service_core.proofs.Serving.{IsService-given, IsService-put, IsService-served, IsService-taken}
use Rattle.service_core.proofs.Held.{HeldAfter, IsOnStrip, StepHeld, command_held, step_held}
use Rattle.service_core.proofs.Holdings.{all_had, has_all, moved_same, owned_same}
use Rattle.service_core.proofs.Exact.{exact_claimed, exact_released, exact_same}
use Rattle.service_core.proofs.Owning.{admitted_owned, evicted_other, evicted_owned, in_window, nobody_else, own_owned, owned_in, owner_has, same_owned, set_live_of, set_other}
use Rattle.service_core.proofs.There.{stands}

abbrev pub state_on : Device → List PlacedStrip → List History → ServiceState
state_on device strips hs = record { device = device; plan = record { columns = device.columns; strips = strips }; histories = hs }

keeps_same : (book : Owners) (device : Device) (strips after : List PlacedStrip) (hs new : List History) → ((k : ℕ) → owned_in after new k ≡ owned_in strips hs k) → KeepsBook book (state_on device strips hs) → KeepsBook book (state_on device after new)
keeps_same book device strips after hs new same was = record { extent = was.extent; exact = exact_same book (owned_in strips hs) (owned_in after new) same was.exact }

-- an admission
pub sound_admitted : (book : Owners) (device : Device) (strips : List PlacedStrip) (hs : List History) (width offset : ℕ) → IsSound book device strips hs → length hs < 65535 →
    IsSound book device (strips ++ record { id = length hs + 1; offset = offset; width = width } ∷ []) (hs ++ admitted_history device (length hs + 1) width ∷ [])
sound_admitted book device strips hs width offset was few = search (IsService-admitted, keeps_same, admitted_owned, arith)

-- a take, and a job that is given back
turned : (book : Owners) (device : Device) (strips : List PlacedStrip) (hs : List History) (id : ℕ) (old new : History) (here : Option Bool) → KeepsBook book (state_on device strips hs) → IsLiveIn hs id → old ≡ get_or hs (id - 1) old → new ≡ with_here here old → KeepsBook book (state_on device strips (set hs (id - 1) new))
turned book device strips hs id old new here was live is changes = grind (arith, same_owned, set-live hs id old (with_here here) new live is changes)

stayed : (book : Owners) (device : Device) (strips : List PlacedStrip) (hs : List History) (id : ℕ) (old new : History) → KeepsBook book (state_on device strips hs) → old ≡ get_or hs (id - 1) old → new ≡ old → KeepsBook book (state_on device strips (set hs (id - 1) new))
stayed book device strips hs id old new was is same = subst (λ xs. KeepsBook book (state_on device strips xs)) (sym (set-kept hs id old new is same)) was

pub sound_taken : (book : Owners) (device : Device) (strips : List PlacedStrip) (hs : List History) (id : ℕ) (old : History) (answer : Option JobState) (new : History) → IsSound book device strips hs → IsLiveIn hs id → old ≡ get_or hs (id - 1) old → TakesHistory old answer new → IsSound book device strips (set hs (id - 1) new)
sound_taken book device strips hs id old answer new was live is taken = record { lawful = was.lawful; kept = IsService-taken device strips hs id old answer new was.kept live is taken; book = by_answer answer taken }
  where
    by_answer : (answer : Option JobState) → TakesHistory old answer new → KeepsBook book (state_on device strips (set hs (id - 1) new))
    by_answer (Some job) taken = turned book device strips hs id old new None was.book live is taken.3
    by_answer None taken = stayed book device strips hs id old new was.book is taken.1

pub sound_given : (book : Owners) (device : Device) (strips : List PlacedStrip) (hs : List History) (id : ℕ) (old : History) (job : JobState) (new : History) → IsSound book device strips hs → IsLiveIn hs id → old ≡ get_or hs (id - 1) old → GivesHistoryBack old job new → IsSound book device strips (set hs (id - 1) new)
sound_given book device strips hs id old job new was live is given = record { lawful = was.lawful; kept = IsService-given device strips hs id old job new was.kept live is given; book = turned book device strips hs id old new given.0 was.book live is given.2 }

-- a live tenancy is written back, with what it occupies
module _ (book left : Owners) (device : Device) (strips : List PlacedStrip) (hs : List History) (id offset : ℕ) (old new : History)
    (was : KeepsBook book (state_on device strips hs)) (live : IsLiveIn hs id) (is : old ≡ get_or hs (id - 1) old) (at : offset_of strips id ≡ Some offset) (its : new.live ≡ true) where
  was_owned : owned_in strips hs id ≡ held_at offset old
  was_owned = own_owned strips hs id offset old at (live_is hs id old live is)

  is_owned : owned_in strips (set hs (id - 1) new) id ≡ held_at offset new
  is_owned = own_owned strips (set hs (id - 1) new) id offset new at (set_live_of hs id old new live is its)

  others : (k : ℕ) → k ≢ id → owned_in strips (set hs (id - 1) new) k ≡ owned_in strips hs k
  others k differ = set_other strips hs id k old new live is differ

  keeps_held : left ≡ book → routed_set (state_of new) ≡ routed_set (state_of old) → KeepsBook left (state_on device strips (set hs (id - 1) new))
  keeps_held same held = subst (λ b. KeepsBook b (state_on device strips (set hs (id - 1) new))) (sym same) (keeps_same book device strips strips hs (set hs (id - 1) new) (λ k. by_id k (eqb k id) refl) was)
    where
      by_id : (k : ℕ) (b : Bool) → eqb k id ≡ b → owned_in strips (set hs (id - 1) new) k ≡ owned_in strips hs k
      by_id k false e = others k (λ same. false≢true (sym e ∙ (Decides-eqb k id).1 same))
      by_id k true e = subst (λ j. owned_in strips (set hs (id - 1) new) j ≡ owned_in strips hs j) (sym ((Decides-eqb k id).0 e)) (is_owned ∙ (ap (map (moved_resource offset)) held ∙ sym was_owned))

  gives_up : Releases book (held_at offset old) left → routed_set (state_of new) ≡ [] → KeepsBook left (state_on device strips (set hs (id - 1) new))
  gives_up released nothing = record {
    extent = released.0 ∙ was.extent;
    exact = exact_released book left (owned_in strips hs) (owned_in strips (set hs (id - 1) new)) id (subst (λ xs. AreOwned book xs None left) (sym was_owned) released) (is_owned ∙ ap (map (moved_resource offset)) nothing) others was.exact;
  }

  takes_up : AreOwned book (held_at offset new) (Some id) left → routed_set (state_of old) ≡ [] → AreFree book offset new → KeepsBook left (state_on device strips (set hs (id - 1) new))
  takes_up claimed nothing free = record {
    extent = claimed.0 ∙ was.extent;
    exact = exact_claimed book left (owned_in strips hs) (owned_in strips (set hs (id - 1) new)) id (subst (λ xs. AreOwned book xs (Some id) left) (sym is_owned) claimed) (was_owned ∙ ap (map (moved_resource offset)) nothing) others
        (λ r in_new. has_all (IsFree book) (held_at offset new) r free (ap (λ xs. has xs r) (sym is_owned) ∙ in_new)) was.exact;
  }

-- a command
served_live : (old : History) (command : Command) (answer : Result (Command × Reply) NotAnswered) (new : History) → ServesHistory old command answer new → new.live ≡ old.live
served_live old command answer new served = grind arith

pub sound_served : (book left : Owners) (device : Device) (strips : List PlacedStrip) (hs : List History) (id offset : ℕ) (old : History) (command : Command) (answer : Result (Command × Reply) NotAnswered) (new : History) →
    IsSound book device strips hs → IsLiveIn hs id → old ≡ get_or hs (id - 1) old → offset_of strips id ≡ Some offset → old.live ≡ true → ServesHistory old command answer new → GivesUpOrKeeps book offset old left new →
    IsSound left device strips (set hs (id - 1) new)
sound_served book left device strips hs id offset old command answer new was live is at is_live served held = record {
  lawful = was.lawful;
  kept = IsService-served device strips hs id old command answer new was.kept live is served;
  book = by_held held;
}
  where
    its : new.live ≡ true
    its = served_live old command answer new served ∙ is_live

    by_held : GivesUpOrKeeps book offset old left new → KeepsBook left (state_on device strips (set hs (id - 1) new))
    by_held (inl given) = gives_up book left device strips hs id offset old new was.book live is at its given.0 given.1
    by_held (inr kept) = keeps_held book left device strips hs id offset old new was.book live is at its kept.0 kept.1

-- what a tenancy occupies after a command
next_state : (old new : History) (e : Entry) → new ≡ with_entry e old → state_of new ≡ (step (state_of old) e.event).0
next_state old new e is = ap state_of is ∙ state_after-push (start old.arch old.strip) old.entries e

pub gives_up_or_keeps : (book left : Owners) (offset : ℕ) (old new : History) (reply : Reply) → GivesUp book (held_at offset old) reply left → HeldAfter (state_of old) (state_of new) reply → GivesUpOrKeeps book offset old left new
gives_up_or_keeps book left offset old new reply given held = grind arith

-- a put
put_held : (old : History) (done : JobStep) (reply : StepReply) (new : History) → PutsHistory old done (Ok reply) new → StepHeld (state_of old) (state_of new) reply
put_held old done reply new put =
    let e : Entry = step_entry done put.0 reply in
    subst (λ s. StepHeld (state_of old) s reply) (sym (next_state old new e put.2)) (step_held (state_of old) _ reply put.1.told)

pub put_live : (old : History) (done : JobStep) (reply : StepReply) (new : History) → PutsHistory old done (Ok reply) new → new.live ≡ old.live
put_live old done reply new put = ap (λ (h : History). h.live) put.2

pub sound_put : (book left : Owners) (device : Device) (strips : List PlacedStrip) (hs : List History) (id offset : ℕ) (old : History) (done : JobStep) (reply : StepReply) (new : History) →
    IsSound book device strips hs → IsLiveIn hs id → old ≡ get_or hs (id - 1) old → offset_of strips id ≡ Some offset → old.live ≡ true → PutsHistory old done (Ok reply) new → (reply ≡ Finished → AreFree book offset new) →
    TakesUp book id offset new reply left → IsSound left device strips (set hs (id - 1) new)
sound_put book left device strips hs id offset old done reply new was live is at is_live put free takes = record {
  lawful = was.lawful;
  kept = IsService-put device strips hs id old done (Ok reply) new was.kept live is put;
  book = by_reply reply (put_held old done reply new put) free takes;
}
  where
    its : new.live ≡ true
    its = put_live old done reply new put ∙ is_live

    by_reply : (reply : StepReply) → StepHeld (state_of old) (state_of new) reply → (reply ≡ Finished → AreFree book offset new) → TakesUp book id offset new reply left → KeepsBook left (state_on device strips (set hs (id - 1) new))
    by_reply Finished held free takes = takes_up book left device strips hs id offset old new was.book live is at its takes held (free refl)
    by_reply Advanced held free takes = keeps_held book left device strips hs id offset old new was.book live is at its takes held
    by_reply Stale held free takes = keeps_held book left device strips hs id offset old new was.book live is at its takes held

pub sound_back : (book : Owners) (device : Device) (strips : List PlacedStrip) (hs : List History) (id : ℕ) (old : History) (done : JobStep) (back : JobStep × AllocError) (new : History) →
    IsSound book device strips hs → IsLiveIn hs id → old ≡ get_or hs (id - 1) old → PutsHistory old done (Err back) new → IsSound book device strips (set hs (id - 1) new)
sound_back book device strips hs id old done back new was live is put = grind (arith, IsService-put device strips hs id old done (Err back) new was.kept live is put, stayed book device strips hs id old new was.book is put.1)

-- an eviction
pub sound_evicted : (book left : Owners) (device : Device) (strips : List PlacedStrip) (hs : List History) (id offset : ℕ) (old : History) →
    IsSound book device strips hs → IsLiveIn hs id → old ≡ get_or hs (id - 1) old → offset_of strips id ≡ Some offset → Releases book (held_at offset old) left → IsSound left device (strips_without strips id) (with_changed hs id closed_history)
sound_evicted book left device strips hs id offset old was live is at released = record {
  lawful = was.lawful;
  kept = IsService-evicted device strips hs id was.kept;
  book = record {
    extent = released.0 ∙ was.book.extent;
    exact = exact_released book left (owned_in strips hs) (owned_in (strips_without strips id) (with_changed hs id closed_history)) id
        (subst (λ xs. AreOwned book xs None left) (sym (own_owned strips hs id offset old at (live_is hs id old live is))) released) (evicted_owned strips hs id) (λ k differ. evicted_other strips hs id k differ) was.book.exact;
  };
}

-- the offset of a live tenancy's strip
pub placed_strip : (strips : List PlacedStrip) (id offset : ℕ) → offset_of strips id ≡ Some offset → (s : PlacedStrip) × (strip_of strips id ≡ Some s) × (s.offset ≡ offset)
placed_strip strips id offset at = grind arith

strip_all : (P : PlacedStrip → Type 0) (strips : List PlacedStrip) (id : ℕ) (s : PlacedStrip) → strip_of strips id ≡ Some s → All P strips → P s
strip_all P [] id s is all = absurd (none-some s is)
strip_all P (t ∷ strips) id s is all =
    elim (eqb t.id id) as (λ b. (if b then Some t else strip_of strips id) ≡ Some s → P s) [
      | true ↦ λ same. subst P (same_Some _ _ same) (All-head P t strips all)
      | false ↦ λ rest. strip_all P strips id s rest (All-tail P t strips all)
    ] is

-- its width
pub its_width : (strips : List PlacedStrip) (hs : List History) (id : ℕ) (s : PlacedStrip) (h : History) → ((j : ℕ) → placed_width strips j ≡ live_width hs j) → strip_of strips id ≡ Some s → live_of hs id ≡ Some h → s.width ≡ h.strip.width
its_width strips hs id s h linked found live = grind arith

-- nobody owns what a live tenancy starts to occupy
pub put_free : (book : Owners) (device : Device) (strips : List PlacedStrip) (hs : List History) (id offset : ℕ) (old : History) (done : JobStep) (reply : StepReply) (new : History) →
    IsSound book device strips hs → IsParted (record { columns = device.columns; strips = strips }) → IsLiveIn hs id → old ≡ get_or hs (id - 1) old → offset_of strips id ≡ Some offset → PutsHistory old done (Ok reply) new →
    reply ≡ Finished → AreFree book offset new
put_free book device strips hs id offset old done reply new was parted live is at put finished =
    all_had (IsFree book) (held_at offset new) (λ r in_new. by_owner r in_new (owner_of book r) refl)
  where
    place : (s : PlacedStrip) × (strip_of strips id ≡ Some s) × (s.offset ≡ offset)
    place = placed_strip strips id offset at

    width : place.0.width ≡ new.strip.width
    width = its_width strips hs id place.0 old was.kept.linked place.1 (live_is hs id old live is) ∙ sym (ap (λ (h : History). h.strip.width) put.2)

    held_nothing : routed_set (state_of old) ≡ []
    held_nothing = subst (StepHeld (state_of old) (state_of new)) finished (put_held old done reply new put)

    owned_nothing : owned_in strips hs id ≡ []
    owned_nothing = own_owned strips hs id offset old at (live_is hs id old live is) ∙ ap (map (moved_resource offset)) held_nothing

    by_owner : (r : Resource) → has (held_at offset new) r ≡ true → (o : Option ℕ) → owner_of book r ≡ o → owner_of book r ≡ None
    by_owner r in_new None e = e
    by_owner r in_new (Some k) e = absurd (by_id (eqb k id) refl)
      where
        owned : has (owned_in strips hs k) r ≡ true
        owned = (was.book.exact r k).0 e

        window : (offset ≤ r.x) × (r.x ≤ offset + new.strip.width)
        window = in_window offset new r in_new

        same_place : place.0.offset ≡ offset
        same_place = place.2

        by_id : (b : Bool) → eqb k id ≡ b → ⊥
        by_id true same = false≢true (ap (λ xs. has xs r) (sym (ap (owned_in strips hs) ((Decides-eqb k id).0 same) ∙ owned_nothing)) ∙ owned)
        by_id false differ = nobody_else (record { columns = device.columns; strips = strips }) hs id k place.0 r parted was.kept.linked place.1
            (omega (arith, window.0, same_place)) (omega (arith, window.1, same_place, width)) owned (λ same. false≢true (sym differ ∙ (Decides-eqb k id).1 same))

-- the book has a place for everything in a live tenancy's strip
pub stands_there : (state : ServiceState) (id offset : ℕ) (h : History) → AreParted state.device state → AreAlone state → offset_of state.plan.strips id ≡ Some offset → live_of state.histories id ≡ Some h →
    StandsIn (extent_of state.device.arch state.device.columns state.device.rows) offset h.arch h.strip
stands_there state id offset h parted all at live = λ r there.
    let device : Device = state.device in
    let place = placed_strip state.plan.strips id offset at in
    let alone : IsAloneOn device h = All-history_of (IsAloneOn device) state.histories id h (if_live_some (history_of state.histories id) h live) all in
    let inside : place.0.offset + place.0.width ≤ state.plan.columns = strip_all (λ s. s.offset + s.width ≤ state.plan.columns) state.plan.strips id place.0 place.1 parted.parted.inside in
    let columns : state.plan.columns ≡ device.columns = parted.columns in
    let width : place.0.width ≡ h.strip.width = its_width state.plan.strips state.histories id place.0 h parted.of_live place.1 live in
    let same_place : place.0.offset ≡ offset = place.2 in
    let wide : offset + h.strip.width ≤ device.columns = omega (arith, inside, width, same_place, columns) in
    let is : is_there device.arch (strip_on device h.strip.width) r ≡ true = ap (λ a. is_there a (strip_on device h.strip.width) r) (sym alone.arch) ∙ (ap (λ s. is_there h.arch s r) (sym alone.strip) ∙ there) in
    stands device.arch (strip_on device h.strip.width) device.columns offset r refl wide is

-- a list of exactly what it occupies
pub stand_in : (book : Owners) (offset : ℕ) (arch : Arch) (strip : Strip) (resources : List Resource) → StandsIn book.extent offset arch strip → All (λ r. is_there arch strip r ≡ true) resources → StandIn book.extent offset resources
stand_in book offset arch strip resources stand there = λ i d lt. stand (get_or resources i d) (there i d lt)

pub free_held : (book : Owners) (offset : ℕ) (h : History) (resources : List Resource) → ((r : Resource) → has resources r ≡ has (routed_set (state_of h)) r) → AreFree book offset h → All (IsFree book) (map (moved_resource offset) resources)
free_held book offset h resources same free = all_had (IsFree book) (map (moved_resource offset) resources)
    (λ r is. has_all (IsFree book) (held_at offset h) r free (sym (moved_same offset resources (routed_set (state_of h)) same r) ∙ is))

-- a live tenancy has a strip
pub has_offset : (strips : List PlacedStrip) (hs : List History) (id : ℕ) (h : History) → ((j : ℕ) → placed_width strips j ≡ live_width hs j) → live_of hs id ≡ Some h → (offset : ℕ) × (offset_of strips id ≡ Some offset)
has_offset strips hs id h linked live = by_strip (strip_of strips id) refl
  where
    by_strip : (o : Option PlacedStrip) → strip_of strips id ≡ o → (offset : ℕ) × (offset_of strips id ≡ Some offset)
    by_strip (Some s) e = (s.offset, ap (option_map (λ (s : PlacedStrip). s.offset)) e)
    by_strip None e = absurd (none-some h.strip.width (sym (ap (option_map (λ (s : PlacedStrip). s.width)) e) ∙ (linked id ∙ ap (option_map (λ (g : History). g.strip.width)) live)))

-- a live tenancy has a history
pub live_some : (device : Device) (hs : List History) (id : ℕ) → IsLiveIn hs id → (h : History) × (live_of hs id ≡ Some h)
live_some device hs id live =
    let d : History = admitted_history device 0 0 in
    let h : History = get_or hs (id - 1) d in
    (h, ap (λ o. if_live o) (live.history d) ∙ ap (λ b. if b then Some h else None) (live.flag d))

-- what a slot's strip has, its tenancy's strip has
pub there_for : (arch : Arch) (strip : Strip) (state : State) (resources : List Resource) → IsOnStrip arch strip state → All (λ r. is_there state.arch state.strip r ≡ true) resources → All (λ r. is_there arch strip r ≡ true) resources
there_for arch strip state resources on all = grind arith

pub stands_for : (book : Owners) (offset : ℕ) (arch : Arch) (strip : Strip) (state : State) → IsOnStrip arch strip state → StandsIn book.extent offset arch strip → StandsIn book.extent offset state.arch state.strip
stands_for book offset arch strip state on stand = grind arith

-- a release and a claim of a list of exactly what is occupied
pub released_held : (book left : Owners) (offset : ℕ) (held resources : List Resource) → ((r : Resource) → has resources r ≡ has held r) → Releases book (map (moved_resource offset) resources) left → Releases book (map (moved_resource offset) held) left
released_held book left offset held resources same released = owned_same book left (map (moved_resource offset) resources) (map (moved_resource offset) held) None (moved_same offset resources held same) released

pub claimed_held : (book left : Owners) (id offset : ℕ) (held resources : List Resource) → ((r : Resource) → has resources r ≡ has held r) → AreOwned book (map (moved_resource offset) resources) (Some id) left → AreOwned book (map (moved_resource offset) held) (Some id) left
claimed_held book left id offset held resources same claimed = owned_same book left (map (moved_resource offset) resources) (map (moved_resource offset) held) (Some id) (moved_same offset resources held same) claimed

-- a command that a slot has served
pub slot_gives_up : (book left : Owners) (offset : ℕ) (old new : History) (state : State) (command : Command) (reply : Reply) → state ≡ state_of old → (step state (Asked command)).1 ≡ Some reply →
    state_of new ≡ (step (state_of old) (Asked command)).0 → GivesUp book (map (moved_resource offset) (routed_set state)) reply left → GivesUpOrKeeps book offset old left new
slot_gives_up book left offset old new state command reply is told after given = grind (arith, gives_up_or_keeps, command_held)

-- and in the current book
pub in_book_there : (book : Owners) (device : Device) (offset : ℕ) (h : History) → book.extent ≡ extent_of device.arch device.columns device.rows →
    StandsIn (extent_of device.arch device.columns device.rows) offset h.arch h.strip → StandsIn book.extent offset h.arch h.strip
in_book_there book device offset h extent stand = subst (λ e. StandsIn e offset h.arch h.strip) (sym extent) stand

-- each resource of the book has one owner
pub one_in_book : (book : Owners) (state : ServiceState) → KeepsBook book state → HasOneOwner state
one_in_book book state keeps = λ r id other is is_other. same_Some _ _ (sym ((keeps.exact r id).1 ((owner_has state r id).0 is)) ∙ (keeps.exact r other).1 ((owner_has state r other).0 is_other))

-- and the book lists them
pub listed_owners : (book : Owners) (state : ServiceState) (list : List Owned) → KeepsBook book state → ListsOwners book list → ListsOwnersOf state list
listed_owners book state list keeps listed = grind (arith, owner_has)
