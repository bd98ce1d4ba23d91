use Rattle.tenant_slot.proofs.Prelude.{◌≡◌, Some, None, true, sym, ap, subst, ◌∙◌, arith, nat_lt, nat_tests, JobState, SlotState, is_takeable, next_job, ready_of}
use Rattle.tenant_slot.proofs.Taking.{IsTaken, is_taken}
use Rattle.tenant_slot.proofs.slot.Slot.take.Goals as goal

pub leave-requires : goal.leave-requires
leave-requires c =
    let ready : ready_of c.self.inside.standing.running ≡ Some c.in_ok-job.job = sym c.take.ensures.job ∙ c.in_ok-job.was in
    (is_taken c.self.inside.id c.self.inside.arch c.self.inside.strip c.self.inside.standing c.self.inside.entries c.in_ok-job.job c.self.invariant ready).going

taken : (c : goal.After-leave) → IsTaken c.self.inside.id c.self.inside.arch c.self.inside.strip c.self.inside.standing c.self.inside.entries c.in_ok-job.job
taken c =
    let ready : ready_of c.self.inside.standing.running ≡ Some c.in_ok-job.job = sym c.take.ensures.job ∙ c.in_ok-job.was in
    is_taken c.self.inside.id c.self.inside.arch c.self.inside.strip c.self.inside.standing c.self.inside.entries c.in_ok-job.job c.self.invariant ready

pub invariant_of-self-2 : goal.invariant_of-self-2
invariant_of-self-2 c = rw c.take.ensures.out (taken c).lawful

pub returns : goal.returns
returns c =
    let small = c.self.invariant.entries_small in
    let test = c.if-self-eq-MAX_ENTRIES.false in
    let room : nat_lt c.self.inside.entries 65536 ≡ true = grind (arith, nat_tests) in (
      subst (λ (s : SlotState). is_takeable s ≡ true) c.self.view_is ((taken c).takeable room),
      subst (λ (s : SlotState). next_job s ≡ Some c.leave.result.step) c.self.view_is ((taken c).next ∙ ap (λ (j : JobState). Some j.step) (sym c.leave.ensures)),
      subst (λ (s : SlotState). s.here ≡ Some c.leave.result.made) c.self.view_is ((taken c).made ∙ ap (λ (j : JobState). Some j.made) (sym c.leave.ensures)),
      rw c.take.ensures.out ((taken c).out ∙ ap (λ (s : SlotState). record s { here = None }) c.self.view_is),
    )
