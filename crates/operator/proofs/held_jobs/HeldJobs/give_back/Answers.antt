use Rattle.operator.proofs.Prelude.{◌≡◌, ◌∷◌, [], Some, None, refl, ◌∙◌, rules, IsGivenBack, Run}
use Rattle.operator.proofs.HeldLemmas.{given, given_more}
use Rattle.operator.proofs.held_jobs.HeldJobs.give_back.Goals as goal

pub loop-held-preserved-in-Some-held : goal.loop-held-preserved-in-Some-held
loop-held-preserved-in-Some-held c =
    let was = c.loop-held.invariant in
    let same : c.into_back.result ≡ c.in-Some-held.job = c.into_back.ensures ∙ c.into_job.ensures in
    let back : IsGivenBack c.loop-held.core c.in-Some-held.job c.give_back.new.self = rw (← same) c.give_back.ensures in
    let next : Run c.loop-held.core (given (Some c.in-Some-held.job ∷ [])) c.give_back.new.self = (c.give_back.new.self, back, refl) in
    given_more c.args.core.now c.loop-held.core c.give_back.new.self c.self.inside.jobs.items c.loop-held.jobs.items c.pop.new.self.items was.0 (Some c.in-Some-held.job)
    was.1 (search rules) was.2 next

pub loop-held-preserved : goal.loop-held-preserved
loop-held-preserved c =
    let was = c.loop-held.invariant in
    given_more c.args.core.now c.loop-held.core c.loop-held.core c.self.inside.jobs.items c.loop-held.jobs.items c.pop.new.self.items was.0 None
    was.1 (search rules) was.2 refl
