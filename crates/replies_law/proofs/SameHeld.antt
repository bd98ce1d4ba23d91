-- Jobs that the operator holds.
use Rattle.replies_law.proofs.Prelude.{◌≡◌, inl, inr, ℕ, Bool, true, List, [], length, Option, Some, None, Ok, refl, sym, ap, ◌∙◌, subst, arith, IsSomeAnd, JobState, StepReply, step, is_takeable, next_job, IsPut, History, slot_of, Call, Run, IsStepOf, ServiceState, live_of, Kept, StepOutcome, Recorded, Full, Gone, NoMemory, Nothing, Unfit, IsOnePut, StepsAndPuts, Holds, PutsHeld}
use Rattle.service_core.specs.declared.put_reply.PutReply.TheVariants.{Recorded as PutRecorded, Full as PutFull, Gone as PutGone}
use Rattle.replies_law.proofs.Found.{HadMemory}
use Rattle.replies_law.proofs.Steps.{PutAnswer, counts}

-- a take by hand
abbrev IsTakenOf : ℕ → JobState → History → Type 0
IsTakenOf id job h = (h.id ≡ id) × (is_takeable (slot_of h) ≡ true) × (next_job (slot_of h) ≡ Some job.step) × (h.here ≡ Some job.made)

pub holds_alike : (old new other : ServiceState) (id : ℕ) (a b : Option JobState) (calls more : List Call) → Holds id a calls → Holds id b more → Run old calls new → Run old more other → HadMemory calls → HadMemory more → (a ≡ b) × (new ≡ other)
holds_alike old new other id a b calls more is it runs run had has = grind arith

-- a put of a job that is held, by its outcome
data PutBy (old : ServiceState) (job : JobState) (outcome : StepOutcome) (new : ServiceState) : Type 0 where
  ByStep : (foreign : Bool) (reply : StepReply) → IsPut old job.step foreign (Ok (PutRecorded reply)) new → outcome ≡ Recorded reply → PutBy old job outcome new
  ByFull : (foreign : Bool) → IsPut old job.step foreign (Ok PutFull) new → outcome ≡ Full → PutBy old job outcome new
  ByGone : (foreign : Bool) → IsPut old job.step foreign (Ok PutGone) new → outcome ≡ Gone → PutBy old job outcome new

one_put : (old new : ServiceState) (job : JobState) (calls : List Call) (answer : PutAnswer) → IsOnePut job calls answer → Run old calls new → (foreign : Bool) × IsPut old job.step foreign answer new
one_put old new job calls answer put runs = grind arith

put_by : (old new : ServiceState) (job : JobState) (calls : List Call) (outcome : StepOutcome) → StepsAndPuts job calls outcome → Run old calls new → HadMemory calls → PutBy old job outcome new
put_by old new job calls (Recorded reply) puts runs had = let one = one_put old new job calls (Ok (PutRecorded reply)) puts runs in ByStep one.0 reply one.1 refl
put_by old new job calls Full puts runs had = let one = one_put old new job calls (Ok PutFull) puts runs in ByFull one.0 one.1 refl
put_by old new job calls Gone puts runs had = let one = one_put old new job calls (Ok PutGone) puts runs in ByGone one.0 one.1 refl
put_by old new job calls NoMemory (inl is) runs had = absurd ((subst HadMemory is had).0)
put_by old new job calls NoMemory (inr is) runs had = absurd ((subst HadMemory is.2 had).0)
put_by old new job calls Nothing puts runs had = absurd puts
put_by old new job calls Unfit puts runs had = absurd ((subst HadMemory puts had).0)

steps_alike : (old new other : ServiceState) (job : JobState) (f g : Bool) (a b : StepReply) → IsPut old job.step f (Ok (PutRecorded a)) new → IsPut old job.step g (Ok (PutRecorded b)) other → (a ≡ b) × (new ≡ other)
steps_alike old new other job f g a b is it = grind arith

step_full : (old : ServiceState) (job : JobState) (f : Bool) (a : StepReply) → Kept old → IsSomeAnd (live_of old.histories job.step.id) (λ h. IsStepOf h job.step f a) → IsSomeAnd (live_of old.histories job.step.id) (λ h. length h.entries ≡ 65536) → ⊥
step_full old job f a kept is full = grind (arith, counts)

and_none : (P : History → Type 0) (o : Option History) → IsSomeAnd o P → o ≡ None → ⊥
and_none P o never none = grind arith

put_alike : (old new other : ServiceState) (job : JobState) (a b : StepOutcome) → Kept old → PutBy old job a new → PutBy old job b other → (a ≡ b) × (new ≡ other)
put_alike old new other job a b kept (ByStep f r is e) (ByStep g q it d) = let same = steps_alike old new other job f g r q is it in (e ∙ (ap Recorded same.0 ∙ sym d), same.1)
put_alike old new other job a b kept (ByStep f r is e) (ByFull g it d) = absurd (step_full old job f r kept is.0 it.0)
put_alike old new other job a b kept (ByStep f r is e) (ByGone g it d) = absurd (and_none (λ h. IsStepOf h job.step f r) (live_of old.histories job.step.id) is.0 it.0)
put_alike old new other job a b kept (ByFull f is e) (ByStep g q it d) = absurd (step_full old job g q kept it.0 is.0)
put_alike old new other job a b kept (ByFull f is e) (ByFull g it d) = (e ∙ sym d, is.1 ∙ sym it.1)
put_alike old new other job a b kept (ByFull f is e) (ByGone g it d) = absurd (and_none (λ h. length h.entries ≡ 65536) (live_of old.histories job.step.id) is.0 it.0)
put_alike old new other job a b kept (ByGone f is e) (ByStep g q it d) = absurd (and_none (λ h. IsStepOf h job.step g q) (live_of old.histories job.step.id) it.0 is.0)
put_alike old new other job a b kept (ByGone f is e) (ByFull g it d) = absurd (and_none (λ h. length h.entries ≡ 65536) (live_of old.histories job.step.id) it.0 is.0)
put_alike old new other job a b kept (ByGone f is e) (ByGone g it d) = (e ∙ sym d, is.1 ∙ sym it.1)

none_called : (old new : ServiceState) (calls : List Call) → calls ≡ [] → Run old calls new → new ≡ old
none_called old new calls is runs = (let P : List Call → Type 0 = λ cs. Run old cs new in subst P is runs)

pub held_alike : (old new other : ServiceState) (job : Option JobState) (calls more : List Call) (a b : StepOutcome) → PutsHeld job calls a → PutsHeld job more b → Run old calls new → Run old more other → Kept old → HadMemory calls → HadMemory more → (a ≡ b) × (new ≡ other)
held_alike old new other None calls more a b is it runs run kept had has = (is.1 ∙ sym it.1, none_called old new calls is.0 runs ∙ sym (none_called old other more it.0 run))
held_alike old new other (Some job) calls more a b is it runs run kept had has = put_alike old new other job a b kept (put_by old new job calls a is runs had) (put_by old other job more b it run has)
