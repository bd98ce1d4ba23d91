use Rattle.sessions.proofs.Prelude.{◌∷◌, Some, Take}
use Rattle.sessions.proofs.Counted.{taken_next}
use Rattle.sessions.proofs.Fitting.{none_never, taken_fits}
use Rattle.sessions.proofs.StepLemmas.{take_happens, taken}
use Rattle.sessions.proofs.steps.make_step.Goals as goal

-- the job that was just taken makes its tenancy's next step
pub step_and_put_from-requires-clause-origin : goal.step_and_put_from-requires-clause-origin
step_and_put_from-requires-clause-origin c =
    taken_next c.args.core.now c.take.new.self c.args.id c.in-Some.job (take_happens c.args.core.now c.take.new.self c.args.id c.take.result c.in-Some.job c.in-Some.is c.take.ensures)

pub returns-in-Some-window_of-clause-made : goal.returns-in-Some-window_of-clause-made
returns-in-Some-window_of-clause-made c =
    let put = c.step_and_put_from.ensures.put in (
      Take c.args.id (Some c.in-Some.job) ∷ put.0,
      taken c.args.id c.in-Some.job put.0 c.step_and_put_from.result put.1,
      (c.take.new.self, take_happens c.args.core.now c.take.new.self c.args.id c.take.result c.in-Some.job c.in-Some.is c.take.ensures, put.2),
    )

pub returns-in-Some-window_of-clause-own : goal.returns-in-Some-window_of-clause-own
returns-in-Some-window_of-clause-own c = λ own. c.step_and_put_from.ensures.fits

pub returns-in-None-window_of-clause-made : goal.returns-in-None-window_of-clause-made
returns-in-None-window_of-clause-made c =
    let given = c.give_back_unfit.ensures in (
      Take c.args.id (Some c.in-Some.job) ∷ given.0,
      taken c.args.id c.in-Some.job given.0 c.give_back_unfit.result given.1,
      (c.take.new.self, take_happens c.args.core.now c.take.new.self c.args.id c.take.result c.in-Some.job c.in-Some.is c.take.ensures, given.2),
    )

pub returns-in-None-window_of-clause-own : goal.returns-in-None-window_of-clause-own
returns-in-None-window_of-clause-own c = λ own.
    let took = take_happens c.args.core.now c.take.new.self c.args.id c.take.result c.in-Some.job c.in-Some.is c.take.ensures in
    absurd (none_never c.window_of.result c.in-None-window_of.is (taken_fits c.args.core.now c.take.new.self c.args.id c.in-Some.job c.args.graph.now c.window_of.result took c.window_of.ensures.own own))
