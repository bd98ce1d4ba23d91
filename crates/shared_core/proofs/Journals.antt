-- The journals after calls of a service.
use Rattle.shared_core.proofs.Prelude.{◌≡◌, ℕ, ◌+◌, ◌-◌, ◌≤◌, List, [], ◌∷◌, ◌++◌, length, Bool, true, false, eqb, Option, Some, None, Ok, Err, refl, arith, length-append, if◌then◌else◌, IsSomeAnd, Result, AllocError, JobStep, JobState, Command, Entry, NotServed, NoMemory, JournalFull, NoSuchTenancy, PutReply, Recorded, Full, Gone, History, with_entry, with_here, if_live, Receipted, ServiceState, history_of, live_of, with_changed, with_entry_of, with_here_of, IsGivenBack, IsPut, IsServed, IsTaken, Puts, IsGivenBackTo, IsReceipt, step_entry, history_of-modified, is_put, puts_among, puts_in, puts_of, entries_of, Follows, GoesOn, Stays}
use Rattle.tenant_slot.specs.declared.event.Event.TheVariants.{Command as Asked}
use Rattle.shared_core.proofs.Following.{Follows-changed, Follows-same, GoesOn-entry, GoesOn-here, Stays-changed, Stays-same, changed_at}

abbrev put_mark : Entry → ℕ
put_mark e = if is_put e.event then 1 else 0

pub puts_among-push : (es : List Entry) (e : Entry) → puts_among (es ++ e ∷ []) ≡ puts_among es + put_mark e
puts_among-push [] e = omega arith
puts_among-push (x ∷ es) e = omega (arith, puts_among-push es e)

-- one entry more in one journal
puts_in-entry : (hs : List History) (id : ℕ) (e : Entry) (h : History) → history_of hs id ≡ Some h → puts_in (with_changed hs id (with_entry e)) ≡ puts_in hs + put_mark e
puts_in-entry [] id e h at = cc
puts_in-entry (g ∷ hs) id e h at =
    elim (eqb id 1) as (λ b. (if b then Some g else history_of hs (id - 1)) ≡ Some h → puts_in (if b then with_entry e g ∷ hs else g ∷ with_changed hs (id - 1) (with_entry e)) ≡ puts_in (g ∷ hs) + put_mark e) [
      | true ↦ λ here. omega (arith, puts_among-push g.entries e)
      | false ↦ λ there. omega (arith, puts_in-entry hs (id - 1) e h there)
    ] at

-- a change that keeps the journals
pub puts_in-kept : (hs : List History) (id : ℕ) (change : History → History) → ((h : History) → (change h).entries ≡ h.entries) → puts_in (with_changed hs id change) ≡ puts_in hs
puts_in-kept [] id change keeps = refl
puts_in-kept (g ∷ hs) id change keeps = grind (arith, puts_in-kept hs (id - 1) change keeps)

pub puts_in-push : (hs : List History) (h : History) → puts_in (hs ++ h ∷ []) ≡ puts_in hs + puts_among h.entries
puts_in-push [] h = omega arith
puts_in-push (g ∷ hs) h = omega (arith, puts_in-push hs h)

-- journals grow, with this number of new put entries; the service goes on, and its tenancies stay
pub record Grows (old new : ServiceState) (puts : ℕ) : Type 0 where
  pub follows : Follows old new
  pub stays : Stays old new
  pub longer : (id : ℕ) → entries_of old.histories id ≤ entries_of new.histories id
  pub put : puts_in new.histories ≡ puts_in old.histories + puts

pub Grows-none : (old new : ServiceState) → new ≡ old → Grows old new 0
Grows-none old new same = rw same (record { follows = Follows-same old; stays = Stays-same old; longer = λ id. omega arith; put = omega arith })

Grows-changed : (s : ServiceState) (id : ℕ) (change : History → History) (puts : ℕ) → ((h : History) → GoesOn h (change h)) → ((h : History) → (change h).live ≡ h.live) → ((h : History) → length h.entries ≤ length (change h).entries) →
    puts_in (with_changed s.histories id change) ≡ puts_in s.histories + puts → Grows s (changed_at s id change) puts
Grows-changed s id change puts goes live longer put = grind (arith, history_of-modified, Follows-changed s id change goes, Stays-changed s id change live)

Grows-here : (s : ServiceState) (id : ℕ) (here : Option Bool) → Grows s (with_here_of s id here) 0
Grows-here s id here = Grows-changed s id (with_here here) 0 (GoesOn-here here) (λ h. refl) (λ h. omega arith) (omega (arith, puts_in-kept s.histories id (with_here here) (λ h. refl)))

Grows-entry : (s : ServiceState) (id : ℕ) (e : Entry) (h : History) → history_of s.histories id ≡ Some h → Grows s (with_entry_of s id e) (put_mark e)
Grows-entry s id e h at = Grows-changed s id (with_entry e) (put_mark e) (GoesOn-entry e) (λ g. refl) (λ g. omega (arith, length-append g.entries (e ∷ []))) (puts_in-entry s.histories id e h at)

-- a live tenancy is one of them
live_there : (P : History → Type 0) (o : Option History) → IsSomeAnd (if_live o) P → (h : History) × (o ≡ Some h)
live_there P o some = grind arith

received : (o : Option History) (id : ℕ) (command : Command) (r : Receipted) → IsReceipt (if_live o) id command r → (h : History) × (o ≡ Some h)
received o id command r is = grind arith

abbrev hs_of : ServiceState → List History
hs_of s = s.histories

pub served : (old new : ServiceState) (id : ℕ) (command : Command) (r : Result Receipted NotServed) → IsServed old id command r new → Grows old new 0
served old new id command (Ok r) is =
    let got = received (history_of old.histories id) id command r is.0 in
    rw is.1 (Grows-entry old id (record { event = Asked command; reply = r.reply }) got.0 got.1)
served old new id command (Err (JournalFull note)) is = Grows-none old new is.2
served old new id command (Err (NoSuchTenancy note)) is = Grows-none old new is.2
served old new id command (Err NoMemory) is = Grows-none old new is.1

pub taken : (old new : ServiceState) (id : ℕ) (r : Option JobState) → IsTaken old id r new → Grows old new 0
taken old new id None is = Grows-none old new is.1
taken old new id (Some job) is = rw is.1 (Grows-here old id None)

given_to : (old new : ServiceState) (job : JobState) (o : Option History) → IsGivenBackTo o old job new → Grows old new 0
given_to old new job None is = Grows-none old new is
given_to old new job (Some h) is = rw is.2 (Grows-here old job.step.id is.0)

pub given_back : (old new : ServiceState) (job : JobState) → IsGivenBack old job new → Grows old new 0
given_back old new job is = given_to old new job (live_of old.histories job.step.id) is

put_so : (old new : ServiceState) (done : JobStep) (foreign : Bool) (r : Result PutReply (JobStep × AllocError)) → IsPut old done foreign r new → Grows old new (puts_of r)
put_so old new done foreign (Ok (Recorded reply)) is =
    let got = live_there _ (history_of old.histories done.id) is.0 in
    rw is.1 (Grows-entry old done.id (step_entry done foreign reply) got.0 got.1)
put_so old new done foreign (Ok Full) is = Grows-none old new is.1
put_so old new done foreign (Ok Gone) is = Grows-none old new is.1
put_so old new done foreign (Err back) is = Grows-none old new is.2

pub put : (old new : ServiceState) (done : JobStep) (r : Result PutReply (JobStep × AllocError)) → Puts old done r new → Grows old new (puts_of r)
put old new done r is = put_so old new done is.0 r is.1

-- a receipt is the entry at the end of its journal
pub received_at : (old new : ServiceState) (id : ℕ) (command : Command) (r : Receipted) → IsServed old id command (Ok r) new → (r.place ≡ entries_of old.histories id) × (entries_of new.histories id ≡ entries_of old.histories id + 1)
received_at old new id command r is = grind (arith, history_of-modified, length-append)
