-- The account stays right.
use Rattle.shared_core.proofs.Prelude.{◌≡◌, ◌≢◌, ℕ, ◌+◌, ◌-◌, ◌<◌, ◌≤◌, List, [], ◌∷◌, ◌++◌, length, get_or, Bool, true, false, not, eqb, Option, Some, None, Ok, Err, refl, sym, ap, ◌∙◌, arith, length-append, if◌then◌else◌, IsSome, is_some, option_map, ◌&&◌, Result, nat_tests, Decides-eqb, strip_of, Command, step-served, History, state_of, closed_history, if_live, NotServed, NoMemory, JournalFull, NoSuchTenancy, OpRefusal, BadWidth, IdsSpent, NoRoom, TooManyStrips, Receipted, AreAlone, IsAloneOn, ServiceState, admitted_history, entries_in, history_of, live_of, with_changed, placed_width, live_width, with_tenancy, without_tenancy, IsAdmitted, IsEvicted, IsMoved, IsServed, IsReceipt, AreParted, All-history_of, history_of-modified, history_of-past, history_of-push, history_of-zero, length-modified, AreSlotted, CoreState, LeaseState, Marked, SlotTable, can_lease, with_lease, numbers_after, has_room_in, is_leased, is_live, marked_of, number_of, places_of, with_changed_marks, no_marks, with_place, AreMarks, IsAccount, IsRising, entries_of, Follows, IsReached}
use Rattle.tenant_slot.specs.declared.event.Event.TheVariants.{Command as Asked}
use Rattle.service_core.specs.declared.op_refusal.OpRefusal.TheVariants.{NoMemory as OpNoMemory, NoSuchTenancy as OpNoSuchTenancy}
use Rattle.shared_core.proofs.Following.{Follows-moved, Follows-push, Follows-same, Follows-trans, Follows-without, Stays-trans}
use Rattle.shared_core.proofs.Holders.{AreSlotted-freed, AreSlotted-given, AreSlotted-same}
use Rattle.shared_core.proofs.Journals.{Grows, puts_in-kept, puts_in-push, received_at, served}
use Rattle.shared_core.proofs.Marks.{length-remarked, marked_of-at}
use Rattle.shared_core.proofs.Reaching.{reached_leased, reached_marked}
use Rattle.shared_core.proofs.Sums.{leases_in-few, leases_in-given, leases_in-place, leases_in-push, places_of-given, places_of-other, places_of-place, places_of-push, places_sum-given, places_sum-place, places_sum-push, rising-longer, rising-push}

AreMarks-grown : (begun : List History) (old new : ServiceState) (marks : List Marked) (puts : ℕ) → Grows old new puts → AreMarks begun old.histories marks → AreMarks begun new.histories marks
AreMarks-grown begun old new marks puts grows was = grind (arith, rising-longer)

-- a call that keeps the marks and the numbers
pub IsAccount-grown : (begun : ServiceState) (stay : Bool) (old new : ServiceState) (marks : List Marked) (holders : List ℕ) (commands : ℕ × ℕ × ℕ × ℕ) (puts : ℕ × ℕ × ℕ) (shares more total' : ℕ) → Grows old new more → total' ≡ puts.0 + more → (stay ≡ true → IsReached begun old marks → IsReached begun new marks) → IsAccount begun stay old marks holders commands puts shares → IsAccount begun stay new marks holders commands (total', puts.1, puts.2) shares
IsAccount-grown begun stay old new marks holders commands puts shares more total' grows is reaches was = grind (arith, Follows-trans begun old new was.follows grows.follows, AreMarks-grown begun.histories old new marks more grows was.placed)

-- who is live
in_closed : (o : Option History) → is_some (if_live (option_map closed_history o)) ≡ false
in_closed o = grind arith

live-closed : (hs : List History) (id other : ℕ) → is_live (with_changed hs id closed_history) other ≡ (if eqb other id then false else is_live hs other)
live-closed hs id other = grind (arith, nat_tests, history_of-modified hs id other closed_history, in_closed (history_of hs other))

live-push : (hs : List History) (h : History) (other : ℕ) → h.live ≡ true → is_live (hs ++ h ∷ []) other ≡ (if eqb other (length hs + 1) then true else is_live hs other)
live-push hs h other live = grind (arith, nat_tests, history_of-push hs h other)

pub nobody : (hs : List History) → is_live hs 0 ≡ false
nobody hs = ap (λ o. is_some (if_live o)) (history_of-zero hs)

no_next : (hs : List History) → is_live hs (length hs + 1) ≡ false
no_next hs = ap (λ o. is_some (if_live o)) (history_of-past hs (length hs + 1) (omega arith))

-- a tenancy that ends keeps its journal
in_entries : (o : Option History) → length (entries_in (option_map closed_history o)) ≡ length (entries_in o)
in_entries o = grind arith

entries-closed : (hs : List History) (id other : ℕ) → entries_of (with_changed hs id closed_history) other ≡ entries_of hs other
entries-closed hs id other = grind (arith, nat_tests, history_of-modified hs id other closed_history, in_entries (history_of hs other))

entries-push : (hs : List History) (h : History) (other : ℕ) → h.entries ≡ [] → entries_of (hs ++ h ∷ []) other ≡ entries_of hs other
entries-push hs h other none = grind (arith, history_of-past, history_of-push)

some_live : (hs : List History) (id : ℕ) → IsSome (live_of hs id) → is_live hs id ≡ true
some_live hs id some = grind (arith, nat_tests)

pub IsAccount-evicted : (begun : ServiceState) (stay : Bool) (old new : ServiceState) (id : ℕ) (marks : List Marked) (holders : List ℕ) (commands : ℕ × ℕ × ℕ × ℕ) (puts : ℕ × ℕ × ℕ) (shares : ℕ) → stay ≡ false → IsEvicted old id (Ok tt) new → IsAccount begun stay old marks holders commands puts shares → IsAccount begun stay new marks (numbers_after holders (number_of holders id) 0) commands puts shares
IsAccount-evicted begun stay old new id marks holders commands puts shares may is was =
    let hs : List History = old.histories in
    let live : is_live hs id ≡ true = some_live hs id is.0 in
    let some : id ≢ 0 = λ zero_is. (let never : is_live hs 0 ≡ true = rw zero_is at live in let no = nobody hs in cc) in
    rw is.1 (record {
      follows = Follows-trans begun old (without_tenancy old id) was.follows (Follows-without old id);
      stays = λ e. absurd (cc);
      reached = λ e. absurd (cc);
      placed = record { count = was.placed.count ∙ sym (length-modified hs id closed_history); few = was.placed.few; rising = λ other. rw (entries-closed hs id other) (was.placed.rising other) };
      slotted = AreSlotted-same (λ other. if eqb other id then false else is_live hs other) (is_live (with_changed hs id closed_history)) (numbers_after holders (number_of holders id) 0) (live-closed hs id) (AreSlotted-freed (is_live hs) holders id was.slotted live some);
      commanded = was.commanded;
      put = record { all = was.put.all ∙ sym (puts_in-kept hs id closed_history (λ h. refl)); cut = was.put.cut; own = was.put.own; few = was.put.few };
    })

-- a strip that moves keeps the histories
moved : (old new : ServiceState) (id offset : ℕ) (answer : Result (Unit {0}) OpRefusal) → IsMoved old id offset answer new → Follows old new
moved old new id offset (Ok nothing) is = rw is.2 (Follows-moved old id offset)
moved old new id offset (Err OpNoSuchTenancy) is = rw is.1 (Follows-same old)
moved old new id offset (Err NoRoom) is = rw is.2 (Follows-same old)
moved old new id offset (Err OpNoMemory) never = absurd never
moved old new id offset (Err TooManyStrips) never = absurd never
moved old new id offset (Err BadWidth) never = absurd never
moved old new id offset (Err IdsSpent) never = absurd never

pub IsAccount-moved : (begun : ServiceState) (stay : Bool) (old new : ServiceState) (id offset : ℕ) (answer : Result (Unit {0}) OpRefusal) (marks : List Marked) (holders : List ℕ) (commands : ℕ × ℕ × ℕ × ℕ) (puts : ℕ × ℕ × ℕ) (shares : ℕ) →
    stay ≡ false → IsMoved old id offset answer new → IsAccount begun stay old marks holders commands puts shares → IsAccount begun stay new marks holders commands puts shares
IsAccount-moved begun stay old new id offset answer marks holders commands puts shares may is was = grind arith

-- exactly the live tenancies have strips
pub is_some-map : {A B : Type 0} (f : A → B) (o : Option A) → is_some (option_map f o) ≡ is_some o
is_some-map f o = grind arith

pub has_strip : (s : ServiceState) (id : ℕ) → placed_width s.plan.strips id ≡ live_width s.histories id → is_live s.histories id ≡ true → is_some (strip_of s.plan.strips id) ≡ true
has_strip s id same live = sym (is_some-map (λ p. p.width) (strip_of s.plan.strips id)) ∙ (ap is_some same ∙ (is_some-map (λ h. h.strip.width) (live_of s.histories id) ∙ live))

pub IsAccount-admitted : (begun : ServiceState) (stay : Bool) (old new : ServiceState) (width : ℕ) (told : ℕ × ℕ) (marks : List Marked) (holders : List ℕ) (commands : ℕ × ℕ × ℕ × ℕ) (puts : ℕ × ℕ × ℕ) (shares : ℕ) → stay ≡ false → IsAdmitted old width (Ok told) new → AreParted old.device old → IsAccount begun stay old marks holders commands puts shares → IsAccount begun stay new (marks ++ no_marks ∷ []) (numbers_after holders (number_of holders 0) told.0) commands puts shares
IsAccount-admitted begun stay old new width told marks holders commands puts shares may is parted was =
    let hs : List History = old.histories in
    let h : History = admitted_history old.device (length hs + 1) width in
    let ids : length hs < 65535 = is.0.ids_left in
    let given_it : AreSlotted (λ other. if eqb other (length hs + 1) then true else is_live hs other) (numbers_after holders (number_of holders 0) (length hs + 1)) = AreSlotted-given (is_live hs) holders old.plan.strips (length hs + 1) was.slotted (nobody hs) (no_next hs) (λ never. omega arith) (λ other live. has_strip old other (parted.of_live other) live) is.0.few_strips in
    rw (is.3, is.1) (record {
      follows = Follows-trans begun old (with_tenancy old width told.1) was.follows (Follows-push old (with_tenancy old width told.1) h refl refl);
      stays = λ e. absurd (cc);
      reached = λ e. absurd (cc);
      placed = record {
        count = length-append marks (no_marks ∷ []) ∙ (ap (λ n. n + 1) was.placed.count ∙ sym (length-append hs (h ∷ [])));
        few = omega (arith, length-append marks (no_marks ∷ []), was.placed.count);
        rising = λ other. rw (entries-push hs h other refl, places_of-push marks other) (was.placed.rising other);
      };
      slotted = AreSlotted-same (λ other. if eqb other (length hs + 1) then true else is_live hs other) (is_live (hs ++ h ∷ [])) (numbers_after holders (number_of holders 0) (length hs + 1)) (λ other. live-push hs h other refl) given_it;
      commanded = record { all = was.commanded.all ∙ sym (places_sum-push marks); cut = was.commanded.cut; spare = ap (λ n. commands.1 + n) (leases_in-push marks) ∙ was.commanded.spare; none_spare = was.commanded.none_spare };
      put = record { all = omega (arith, was.put.all, puts_in-push hs h); cut = was.put.cut; own = was.put.own; few = was.put.few };
    })

-- the marks of a tenancy that exists
within : (hs : List History) (id : ℕ) (h : History) → history_of hs id ≡ Some h → (0 < id) × (id ≤ length hs)
within hs id h at = grind (arith, history_of-past, history_of-zero hs)

live_is_there : (hs : List History) (id : ℕ) → is_live hs id ≡ true → (h : History) × (history_of hs id ≡ Some h)
live_is_there hs id live = grind arith

pub live_within : (hs : List History) (id : ℕ) → is_live hs id ≡ true → (0 < id) × (id ≤ length hs)
live_within hs id live = let got = live_is_there hs id live in within hs id got.0 got.1

has_marks : (ms : List Marked) (id : ℕ) → 0 < id → id ≤ length ms → (m : Marked) × (marked_of ms id ≡ Some m)
has_marks ms id pos le = (get_or ms (id - 1) no_marks, marked_of-at ms id no_marks pos le)

pub room_live : (hs : List History) (id : ℕ) → has_room_in (live_of hs id) ≡ true → is_live hs id ≡ true
room_live hs id room = grind arith

-- a lease is given
pub IsAccount-leased : (begun : ServiceState) (stay : Bool) (s : ServiceState) (ms : List Marked) (holders : List ℕ) (total parts amount whole : ℕ) (puts : ℕ × ℕ × ℕ) (shares id parts' amount' : ℕ) → is_live s.histories id ≡ true → is_leased ms id ≡ false → parts' + 1 ≡ parts → amount' + 0 ≡ amount → IsAccount begun stay s ms holders (total, parts, amount, whole) puts shares → IsAccount begun stay s (with_changed_marks ms id with_lease) holders (total, parts', amount', whole) puts shares
IsAccount-leased begun stay s ms holders total parts amount whole puts shares id parts' amount' live free ps as' was =
    let there = live_within s.histories id live in
    let count = was.placed.count in
    let got = has_marks ms id there.0 (omega arith) in
    let none : got.0.given ≡ false = rw got.1 at free in
    record {
      follows = was.follows;
      stays = was.stays;
      reached = λ e. reached_leased begun s ms id (was.reached e);
      placed = record { count = length-remarked ms id with_lease ∙ was.placed.count; few = omega (arith, length-remarked ms id with_lease, was.placed.few); rising = λ other. rw (places_of-given ms id other) (was.placed.rising other) };
      slotted = was.slotted;
      commanded = record { all = was.commanded.all ∙ sym (places_sum-given ms id); cut = was.commanded.cut; spare = omega (arith, was.commanded.spare, leases_in-given ms id got.0 got.1 none); none_spare = omega (arith, was.commanded.none_spare) };
      put = was.put;
    }

-- a part is left for the lease
pub part_left : (begun : ServiceState) (stay : Bool) (s : ServiceState) (ms : List Marked) (holders : List ℕ) (commands : ℕ × ℕ × ℕ × ℕ) (puts : ℕ × ℕ × ℕ) (shares : ℕ) → IsAccount begun stay s ms holders commands puts shares → 1 ≤ commands.1
part_left begun stay s ms holders commands puts shares was = omega (arith, was.commanded.spare, leases_in-few ms, was.placed.few)

-- an entry of a lease
pub IsAccount-marked : (begun : ServiceState) (stay : Bool) (old new : ServiceState) (id : ℕ) (command : Command) (r : Receipted) (ms : List Marked) (holders : List ℕ) (commands : ℕ × ℕ × ℕ × ℕ) (puts : ℕ × ℕ × ℕ) (shares total' : ℕ) → IsServed old id command (Ok r) new → is_live old.histories id ≡ true → total' ≡ commands.0 + 1 → IsAccount begun stay old ms holders commands puts shares → IsAccount begun stay new (with_changed_marks ms id (with_place r.place)) holders (total', commands.1, commands.2, commands.3) puts shares
IsAccount-marked begun stay old new id command r ms holders commands puts shares total' is live ts was =
    let there = live_within old.histories id live in
    let count = was.placed.count in
    let got = has_marks ms id there.0 (omega arith) in
    let grows : Grows old new 0 = served old new id command (Ok r) is in
    let at = received_at old new id command r is in
    record {
      follows = Follows-trans begun old new was.follows grows.follows;
      stays = λ e. Stays-trans begun old new (was.stays e) grows.stays;
      reached = λ e. reached_marked begun old new ms id command r got.0 got.1 is (was.reached e);
      placed = record {
        count = length-remarked ms id (with_place r.place) ∙ (was.placed.count ∙ sym grows.stays.count);
        few = omega (arith, length-remarked ms id (with_place r.place), was.placed.few);
        rising = λ other. by_id at got.0 got.1 grows other (eqb other id) refl;
      };
      slotted = AreSlotted-same (is_live old.histories) (is_live new.histories) holders grows.stays.live was.slotted;
      commanded = record { all = omega (arith, ts, was.commanded.all, places_sum-place ms id r.place got.0 got.1); cut = was.commanded.cut; spare = ap (λ n. commands.1 + n) (leases_in-place ms id r.place) ∙ was.commanded.spare; none_spare = was.commanded.none_spare };
      put = record { all = omega (arith, was.put.all, grows.put); cut = was.put.cut; own = was.put.own; few = was.put.few };
    }
  where
    by_id : (r.place ≡ entries_of old.histories id) × (entries_of new.histories id ≡ entries_of old.histories id + 1) → (m : Marked) → marked_of ms id ≡ Some m → Grows old new 0 → (other : ℕ) (b : Bool) → eqb other id ≡ b → IsRising (entries_of begun.histories other) (places_of (with_changed_marks ms id (with_place r.place)) other) (entries_of new.histories other)
    by_id at m here grows other true e =
        let same : other ≡ id = (Decides-eqb other id).0 e in
        rw (same, places_of-place ms id r.place m here, at.0, at.1) (rising-push (entries_of begun.histories id) (places_of ms id) (entries_of old.histories id) (was.placed.rising id))
    by_id at m here grows other false e = rw (places_of-other ms id other r.place e) (rising-longer (entries_of begun.histories other) (places_of ms other) _ _ (grows.longer other) (was.placed.rising other))

-- without room in its journal a command isn't served
pub served_room : (old new : ServiceState) (id : ℕ) (command : Command) (r : Receipted) → AreAlone old → IsServed old id command (Ok r) new → has_room_in (live_of old.histories id) ≡ true
served_room old new id command r alone is = at_option (history_of old.histories id) refl is.0
  where
    at_option : (o : Option History) → history_of old.histories id ≡ o → IsReceipt (if_live o) id command r → has_room_in (if_live o) ≡ true
    at_option None e none = absurd none
    at_option (Some h) e said = by_live h.live said
      where
        by_live : (b : Bool) → IsReceipt (if b then Some h else None) id command r → has_room_in (if b then Some h else None) ≡ true
        by_live false none = absurd none
        by_live true told =
            let lone : IsAloneOn old.device h = All-history_of (IsAloneOn old.device) old.histories id h e alone in
            let room = (step-served (state_of h) (Asked command) r.reply told.3).1 in
            let count = lone.replayed.count in
            let few = lone.replayed.few in
            grind (arith, nat_tests)

pub record Unserved (old new : ServiceState) (r : Result Receipted NotServed) : Type 0 where
  pub refusal : NotServed
  pub is : r ≡ Err refusal
  pub same : new ≡ old

pub unserved : (old new : ServiceState) (id : ℕ) (command : Command) (r : Result Receipted NotServed) → AreAlone old → has_room_in (live_of old.histories id) ≡ false → IsServed old id command r new → Unserved old new r
unserved old new id command (Ok r) alone full is = let room = served_room old new id command r alone is in cc
unserved old new id command (Err (JournalFull note)) alone full is = record { refusal = JournalFull note; is = refl; same = is.2 }
unserved old new id command (Err (NoSuchTenancy note)) alone full is = record { refusal = NoSuchTenancy note; is = refl; same = is.2 }
unserved old new id command (Err NoMemory) alone full is = record { refusal = NoMemory; is = refl; same = is.1 }

-- who can be leased
and_both : (a b : Bool) → (a && not b) ≡ true → (a ≡ true) × (b ≡ false)
and_both a b never = grind arith

pub leasable : (core : CoreState) (id : ℕ) → can_lease core id ≡ true → (is_live core.service.histories id ≡ true) × (is_leased core.marks id ≡ false)
leasable core id can = and_both (is_live core.service.histories id) (is_leased core.marks id) can

-- values given by their parts
abbrev lease_of : ℕ → ℕ → LeaseState
lease_of id made = record { id = id; made = made }

pub lease_is : (id a b : ℕ) → a ≡ b → lease_of id a ≡ lease_of id b
lease_is id a b same = ap (lease_of id) same

abbrev core_of : ServiceState → List Marked → SlotTable → ℕ → ℕ → CoreState
core_of service marks slots shares own = record { service = service; marks = marks; slots = slots; shares = shares; own_puts = own }

pub core_is : (service service' : ServiceState) (a b : List Marked) (slots : SlotTable) (shares own : ℕ) → service ≡ service' → a ≡ b → core_of service a slots shares own ≡ core_of service' b slots shares own
core_is service service' a b slots shares own to same = rw (to, same) refl
