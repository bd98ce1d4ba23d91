-- Histories with each next step here, and not made.
use Rattle.live_machine.proofs.Prelude.{◌≡◌, ℕ, ◌-◌, List, [], ◌∷◌, ◌++◌, map, Bool, true, false, ◌&&◌, cond, eqb, Option, Some, None, refl, sym, ap, subst, ◌∙◌, arith, IfSome, IsSome, IsSomeAnd, nat_lt, option_and_then, option_map, option_map_or, JobState, MAX_ENTRIES, State, answer_to, kind_that_runs, is_takeable, Entry, takeable_in, History, slot_of, state_of, with_entry, with_here, Happens, IsGivenBackTo, GiveBack, ServiceState, history_of, live_of, with_change, with_changed, all_here}
use Rattle.std.specs.Prelude.{is_some}
use Rattle.service_core.specs.Run.Call.{Take}

abbrev pub rested : History → History
rested h = with_here (Some false) h

abbrev pub rested_all : List History → List History
rested_all hs = map rested hs

-- the tenancies by their ids
pub history_rested : (hs : List History) (id : ℕ) → history_of (rested_all hs) id ≡ option_map rested (history_of hs id)
history_rested [] id = refl
history_rested (h ∷ hs) id = grind (arith, history_rested hs (id - 1))

abbrev if_lives : Option History → Option History
if_lives o = option_and_then (λ (h : History). cond h.live (Some h) None) o

lives_rested : (o : Option History) → if_lives (option_map rested o) ≡ option_map rested (if_lives o)
lives_rested o = grind arith

pub live_rested : (hs : List History) (id : ℕ) → live_of (rested_all hs) id ≡ option_map rested (live_of hs id)
live_rested hs id = ap if_lives (history_rested hs id) ∙ lives_rested (history_of hs id)

pub live_none : (hs : List History) (id : ℕ) → live_of hs id ≡ None → live_of (rested_all hs) id ≡ None
live_none hs id none = live_rested hs id ∙ ap (option_map rested) none

pub live_some : (hs : List History) (id : ℕ) (h : History) → live_of hs id ≡ Some h → live_of (rested_all hs) id ≡ Some (rested h)
live_some hs id h is = live_rested hs id ∙ ap (option_map rested) is

is_rested : (o : Option History) → IsSome o → IsSome (option_map rested o)
is_rested o is = grind arith

pub live_is : (hs : List History) (id : ℕ) → IsSome (live_of hs id) → IsSome (live_of (rested_all hs) id)
live_is hs id is = let P : Option History → Type 0 = λ o. IsSome o in subst P (sym (live_rested hs id)) (is_rested (live_of hs id) is)

and_rested : (Q : History → Type 0) → ((h : History) → Q h → Q (rested h)) → (o : Option History) → IsSomeAnd o Q → IsSomeAnd (option_map rested o) Q
and_rested Q keeps o is = grind arith

pub live_and : (Q : History → Type 0) → ((h : History) → Q h → Q (rested h)) → (hs : List History) (id : ℕ) → IsSomeAnd (live_of hs id) Q → IsSomeAnd (live_of (rested_all hs) id) Q
live_and Q keeps hs id is = let P : Option History → Type 0 = λ o. IsSomeAnd o Q in subst P (sym (live_rested hs id)) (and_rested Q keeps (live_of hs id) is)

and_before : (Q : History → Type 0) → ((h : History) → Q (rested h) → Q h) → (o : Option History) → IsSomeAnd (option_map rested o) Q → IsSomeAnd o Q
and_before Q keeps o is = grind arith

pub live_before : (Q : History → Type 0) → ((h : History) → Q (rested h) → Q h) → (hs : List History) (id : ℕ) → IsSomeAnd (live_of (rested_all hs) id) Q → IsSomeAnd (live_of hs id) Q
live_before Q keeps hs id is = let P : Option History → Type 0 = λ o. IsSomeAnd o Q in and_before Q keeps (live_of hs id) (subst P (live_rested hs id) is)

-- changes of one tenancy
pub changed_at : (hs : List History) (id : ℕ) (change other : History → History) → ((h : History) → history_of hs id ≡ Some h → rested (change h) ≡ other (rested h)) → rested_all (with_changed hs id change) ≡ with_changed (rested_all hs) id other
changed_at [] id change other at = refl
changed_at (h ∷ hs) id change other at =
    elim (eqb id 1) as (λ b. ((g : History) → cond b (Some h) (history_of hs (id - 1)) ≡ Some g → rested (change g) ≡ other (rested g)) → rested_all (cond b (change h ∷ hs) (h ∷ with_changed hs (id - 1) change)) ≡ cond b (other (rested h) ∷ rested_all hs) (rested h ∷ with_changed (rested_all hs) (id - 1) other)) [
      | true ↦ λ its. ap (λ x. x ∷ rested_all hs) (its h refl)
      | false ↦ λ its. ap (λ x. rested h ∷ x) (changed_at hs (id - 1) change other its)
    ] at

pub changed_same : (hs : List History) (id : ℕ) (change : History → History) → ((h : History) → rested (change h) ≡ rested h) → rested_all (with_changed hs id change) ≡ rested_all hs
changed_same [] id change same = refl
changed_same (h ∷ hs) id change same = grind (arith, changed_same hs (id - 1) change same)

pub changed_twice : (hs : List History) (id : ℕ) (first more : History → History) → with_changed (with_changed hs id first) id more ≡ with_changed hs id (λ h. more (first h))
changed_twice [] id first more = refl
changed_twice (h ∷ hs) id first more = grind (arith, changed_twice hs (id - 1) first more)

pub changed_back : (hs : List History) (id : ℕ) → with_changed (rested_all hs) id (λ h. rested (with_here None h)) ≡ rested_all hs
changed_back [] id = refl
changed_back (h ∷ hs) id = grind (arith, changed_back hs (id - 1))

either_here : (o : Option State) → option_map_or (λ new. Some false) o (Some false) ≡ Some false
either_here o = grind arith

pub entry_rested : (entry : Entry) (h : History) → rested (with_entry entry h) ≡ with_entry entry (rested h)
entry_rested entry h = ap (λ here. record h { entries = h.entries ++ entry ∷ []; here = here }) (sym (either_here (answer_to (state_of h) entry.event).0))

-- the service with other histories
abbrev pub with_histories : ServiceState → List History → ServiceState
with_histories service hs = record service { histories = hs }

pub here_same : (old : ServiceState) (id : ℕ) (change : History → History) → ((h : History) → rested (change h) ≡ rested h) → all_here (with_change old id change) ≡ all_here old
here_same old id change same = ap (with_histories old) (changed_same old.histories id change same)

pub here_changed : (old : ServiceState) (id : ℕ) (change : History → History) → ((h : History) → rested (change h) ≡ change (rested h)) → all_here (with_change old id change) ≡ with_change (all_here old) id change
here_changed old id change same = ap (with_histories old) (changed_at old.histories id change change (λ h is. same h))

-- that a worker takes a step, or gives it back, changes nothing but where it is
pub taken : (old new : ServiceState) (id : ℕ) (job : Option JobState) → Happens old (Take id job) new → all_here new ≡ all_here old
taken old new id job takes = grind (arith, here_same)

given_to : (o : Option History) (old : ServiceState) (job : JobState) (new : ServiceState) → IsGivenBackTo o old job new → all_here new ≡ all_here old
given_to o old job new same = grind (arith, here_same)

pub given : (old new : ServiceState) (job : JobState) → Happens old (GiveBack job) new → all_here new ≡ all_here old
given old new job gives = given_to (live_of old.histories job.step.id) old job new gives

retaken : (runs here room : Bool) → (runs && (here && room)) ≡ true → (runs && (true && room)) ≡ true
retaken runs here room is = grind arith

pub none_before : (o : Option History) → takeable_in (option_map rested o) ≡ false → takeable_in o ≡ false
none_before o is = grind arith

pub none_taken : (o : Option History) → takeable_in o ≡ false → IfSome o (λ h. is_takeable (slot_of h) ≡ false)
none_taken o is = grind arith

pub some_taken : (h : History) → is_takeable (slot_of h) ≡ true → is_takeable (slot_of (rested h)) ≡ true
some_taken h is = retaken (is_some (kind_that_runs (state_of h).name)) (is_some h.here) (nat_lt (state_of h).entries MAX_ENTRIES) is
