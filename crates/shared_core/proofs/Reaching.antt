-- A service that was reached is reached by one more call.
use Rattle.shared_core.proofs.Prelude.{◌≡◌, ℕ, List, [], ◌∷◌, ◌++◌, Bool, true, false, eqb, Option, Some, Ok, Err, refl, sym, ap, ◌∙◌, subst, arith, append-nil, All, map, if◌then◌else◌, AllocError, nat_tests, Decides-eqb, flat_map-append, map-append, All-head, All-push, All-tail, JobStep, JobState, Command, PutReply, Receipted, IsGivenBack, IsServed, IsTaken, Puts, Call, Happens, Run, Admit, Evict, Move, Tenant, Take, Put, GiveBack, Owners, ServiceState, Marked, with_lease, marked_of, places_of, with_changed_marks, with_place, puts_of, Follows, Stays, IsReached, is_of_threads, own_receipt, own_receipts}
use Rattle.std.proofs.Common.{Result}
use Rattle.shared_core.proofs.Following.{Follows-same, Follows-trans, Stays-same, Stays-trans}
use Rattle.shared_core.proofs.Journals.{Grows, given_back, put, served, taken}
use Rattle.shared_core.proofs.Sums.{places_of-given, places_of-other, places_of-place}

Run-push : (a : ServiceState) (calls : List Call) (b : ServiceState) (call : Call) (c : ServiceState) → Run a calls b → Happens b call c → Run a (calls ++ call ∷ []) c
Run-push a [] b call c first next = let P : ServiceState → Type 0 = λ s. Happens s call c in (c, subst P first next, refl)
Run-push a (x ∷ calls) b call c first next = (first.0, first.1, Run-push first.0 calls b call c first.2 next)

own_receipts-push : (id : ℕ) (calls : List Call) (call : Call) → own_receipts id (calls ++ call ∷ []) ≡ own_receipts id calls ++ own_receipt id call
own_receipts-push id calls call = flat_map-append (own_receipt id) calls (call ∷ []) ∙ ap (λ rs. own_receipts id calls ++ rs) (append-nil (own_receipt id call))

abbrev pub places_in_calls : ℕ → List Call → List ℕ
places_in_calls id calls = map (λ r. r.place) (own_receipts id calls)

-- a call that serves no command
reached_by : (begun old new : ServiceState) (marks : List Marked) (call : Call) → is_of_threads call ≡ true → ((id : ℕ) → own_receipt id call ≡ []) → Happens old call new → IsReached begun old marks → IsReached begun new marks
reached_by begun old new marks call kind none happens was = record {
  calls = was.calls ++ call ∷ [];
  run = Run-push begun was.calls old call new was.run happens;
  kinds = All-push (λ c. is_of_threads c ≡ true) was.calls call was.kinds kind;
  commands = λ id.
      let more : own_receipts id (was.calls ++ call ∷ []) ≡ own_receipts id was.calls = own_receipts-push id was.calls call ∙ (ap (λ rs. own_receipts id was.calls ++ rs) (none id) ∙ append-nil (own_receipts id was.calls)) in
      ap (λ rs. map (λ (r : Receipted). r.place) rs) more ∙ was.commands id;
}

pub reached_taken : (begun old new : ServiceState) (marks : List Marked) (id : ℕ) (answer : Option JobState) → IsTaken old id answer new → IsReached begun old marks → IsReached begun new marks
reached_taken begun old new marks id answer is was = reached_by begun old new marks (Take id answer) refl (λ other. refl) is was

pub reached_put : (begun old new : ServiceState) (marks : List Marked) (done : JobStep) (answer : Result PutReply (JobStep × AllocError)) → Puts old done answer new → IsReached begun old marks → IsReached begun new marks
reached_put begun old new marks done answer is was = reached_by begun old new marks (Put done is.0 answer) refl (λ other. refl) is.1 was

pub reached_given_back : (begun old new : ServiceState) (marks : List Marked) (job : JobState) → IsGivenBack old job new → IsReached begun old marks → IsReached begun new marks
reached_given_back begun old new marks job is was = reached_by begun old new marks (GiveBack job) refl (λ other. refl) is was

-- a command of a lease, whose entry is marked
mine : (id : ℕ) (command : Command) (r : Receipted) → own_receipt id (Tenant id command (Ok r)) ≡ r ∷ []
mine id command r = let e : eqb id id ≡ true = grind (arith, nat_tests) in rw e refl

others : (id other : ℕ) (command : Command) (r : Receipted) → eqb other id ≡ false → own_receipt other (Tenant id command (Ok r)) ≡ []
others id other command r differ = let e : eqb id other ≡ false = grind (arith, nat_tests) in rw e refl

pub reached_marked : (begun old new : ServiceState) (marks : List Marked) (id : ℕ) (command : Command) (r : Receipted) (m : Marked) → marked_of marks id ≡ Some m → IsServed old id command (Ok r) new → IsReached begun old marks → IsReached begun new (with_changed_marks marks id (with_place r.place))
reached_marked begun old new marks id command r m at is was = record {
  calls = was.calls ++ call ∷ [];
  run = Run-push begun was.calls old call new was.run is;
  kinds = All-push (λ c. is_of_threads c ≡ true) was.calls call was.kinds refl;
  commands = λ other. by_id other (eqb other id) refl;
}
  where
    call : Call
    call = Tenant id command (Ok r)

    by_id : (other : ℕ) (b : Bool) → eqb other id ≡ b → places_in_calls other (was.calls ++ call ∷ []) ≡ places_of (with_changed_marks marks id (with_place r.place)) other
    by_id other true e =
        let same : other ≡ id = (Decides-eqb other id).0 e in
        let more : own_receipts id (was.calls ++ call ∷ []) ≡ own_receipts id was.calls ++ r ∷ [] = own_receipts-push id was.calls call ∙ ap (λ rs. own_receipts id was.calls ++ rs) (mine id command r) in
        let places : places_in_calls id (was.calls ++ call ∷ []) ≡ places_in_calls id was.calls ++ r.place ∷ [] = ap (λ rs. map (λ (x : Receipted). x.place) rs) more ∙ map-append (λ (x : Receipted). x.place) (own_receipts id was.calls) (r ∷ []) in
        rw same (places ∙ (ap (λ ps. ps ++ r.place ∷ []) (was.commands id) ∙ sym (places_of-place marks id r.place m at)))
    by_id other false e =
        let more : own_receipts other (was.calls ++ call ∷ []) ≡ own_receipts other was.calls = own_receipts-push other was.calls call ∙ (ap (λ rs. own_receipts other was.calls ++ rs) (others id other command r e) ∙ append-nil (own_receipts other was.calls)) in
        ap (λ rs. map (λ (x : Receipted). x.place) rs) more ∙ (was.commands other ∙ sym (places_of-other marks id other r.place e))

-- a lease that is given has entered no command
pub reached_leased : (begun service : ServiceState) (marks : List Marked) (id : ℕ) → IsReached begun service marks → IsReached begun service (with_changed_marks marks id with_lease)
reached_leased begun service marks id was = grind (arith, places_of-given)

-- calls of threads let a service go on, and its tenancies stay
abbrev pub IsOfThreads : Call → Type 0
IsOfThreads call = is_of_threads call ≡ true

grows_by : (a b : ServiceState) (call : Call) → IsOfThreads call → Happens a call b → (puts : ℕ) × Grows a b puts
grows_by a b (Admit width answer) never is = cc
grows_by a b (Evict id answer) never is = cc
grows_by a b (Move id offset answer) never is = cc
grows_by a b (Tenant id command (Err refusal)) never is = cc
grows_by a b (Tenant id command (Ok r)) kind is = (0, served a b id command (Ok r) is)
grows_by a b (Take id answer) kind is = (0, taken a b id answer is)
grows_by a b (Put done foreign answer) kind is = (puts_of answer, put a b done answer (foreign, is))
grows_by a b (GiveBack job) kind is = (0, given_back a b job is)
grows_by a b (Owners list) never is = cc

pub run_goes_on : (a : ServiceState) (calls : List Call) (b : ServiceState) → All IsOfThreads calls → Run a calls b → Follows a b × Stays a b
run_goes_on a [] b kinds run = rw run (Follows-same a, Stays-same a)
run_goes_on a (call ∷ calls) b kinds run =
    let one = grows_by a run.0 call (All-head IsOfThreads call calls kinds) run.1 in
    let rest = run_goes_on run.0 calls b (All-tail IsOfThreads call calls kinds) run.2 in
    (Follows-trans a run.0 b one.1.follows rest.0, Stays-trans a run.0 b one.1.stays rest.1)
