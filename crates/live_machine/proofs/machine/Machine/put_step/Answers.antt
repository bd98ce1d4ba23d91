use Rattle.live_machine.proofs.Prelude.{◌≡◌, false, true, sym, subst, ◌∙◌, rules, false≢true, JobState, IsGivenBack, state_in, is_busy}
use Rattle.live_machine.proofs.CountLemmas.{counts_after}
use Rattle.live_machine.proofs.WorkLemmas.{ends_by}
use Rattle.live_machine.proofs.machine.Machine.put_step.Goals as goal
use Rattle.live_machine.proofs.machine.Machine.put_step.Goals.{then-had_step-via-then-had_step, then-had_step-via-else-had_step+then-not-has_step}

pub returns-then-had_step-clause-ends : goal.returns-then-had_step-clause-ends
returns-then-had_step-clause-ends c = c.give_back.ensures.same c.args.self.now.held

pub returns-then-had_step-clause-counts : goal.returns-then-had_step-clause-counts
returns-then-had_step-clause-counts c =
    λ counts same.
    let old = state_in c.args.self.now.server.lines in
    let new = state_in c.give_back.new.self.lines in
    elim c.then-had_step.branch [
      | then-had_step-via-then-had_step w ↦
          let had : c.has_step-had_step.result ≡ true = search rules in
          absurd (false≢true (sym counts.out ∙ (sym c.has_step-had_step.ensures ∙ had)))
      | then-had_step-via-else-had_step+then-not-has_step w ↦
          let P : JobState → Type 0 = λ job. IsGivenBack old.stage.service job new.stage.service in
          let has : is_busy new c.args.name.now ≡ true = counts_after old new c.args.done c.args.name.now counts (subst P c.into_back.ensures c.give_back.ensures.given) c.give_back.ensures.names in
          let gone : w.has_step.result ≡ false = search rules in
          absurd (false≢true (sym gone ∙ (w.has_step.ensures ∙ has)))
    ]

pub returns-clause-ends : goal.returns-clause-ends
returns-clause-ends c =
    let held = c.args.self.now.held in
    ends_by c.in_ok-serve_step.field-0 c.args.name.now _ _ _ (c.give_back.ensures.same held) (c.in_ok-serve_step.ensures.puts held)
