use Rattle.desk_netlists.proofs.Prelude.{subst, sym, IsLeast, IsTrial}
use Rattle.desk_netlists.proofs.route.trial_with.Goals as goal

pub returns-in_ok-least-in-None : goal.returns-in_ok-least-in-None
returns-in_ok-least-in-None g c =
    let least = subst (λ plan. IsLeast plan c.args.job.request c.in_ok-least-in-None.least) c.plan-in-None.ensures c.in_ok-least-in-None.ensures.least in
    subst (λ asked. IsTrial c.args.job asked c.of_least.result) (sym c.in-None.is) (c.of_least.ensures c.args.job least)
