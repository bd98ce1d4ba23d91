use Rattle.operator.proofs.Prelude.{◌≡◌, ◌∷◌, [], Option, Some, None, inl, inr, refl, subst, rules, JobState, IsTaken, Take, GiveBack, none_never, taken_fits, given_runs, take_happens}
use Rattle.operator.proofs.held_jobs.HeldJobs.take.Goals as goal

pub returns-in-Some-window_of-clause-taken : goal.returns-in-Some-window_of-clause-taken
returns-in-Some-window_of-clause-taken c =
    let took = take_happens c.args.core.now c.take.new.self c.args.id c.take.result c.in-Some.job c.in-Some.is c.take.ensures in
    (Some c.in-Some.job, Take c.args.id (Some c.in-Some.job) ∷ [], refl, (c.take.new.self, took, refl), search rules, search rules, λ own none. cc)

pub returns-in-None-window_of-clause-taken : goal.returns-in-None-window_of-clause-taken
returns-in-None-window_of-clause-taken c =
    let given = given_runs c.take.new.self c.give_back.new.self c.in-Some.job c.into_back.result c.into_back.ensures c.give_back.ensures in
    let took = take_happens c.args.core.now c.take.new.self c.args.id c.take.result c.in-Some.job c.in-Some.is c.take.ensures in
    let items : c.reserve.new.self.items ≡ c.args.self.now = search rules in (
      None,
      Take c.args.id (Some c.in-Some.job) ∷ GiveBack c.in-Some.job ∷ [],
      inr (c.in-Some.job, refl),
      (c.take.new.self, took, given),
      items,
      refl,
      λ own none. absurd (none_never c.window_of.result c.in-None-window_of.is (taken_fits c.args.core.now c.take.new.self c.args.id c.in-Some.job c.args.graph.now c.window_of.result took c.window_of.ensures.own own)),
    )

pub returns-in-None-clause-taken : goal.returns-in-None-clause-taken
returns-in-None-clause-taken c =
    let took : IsTaken c.args.core.now c.args.id None c.take.new.self = (let P : Option JobState → Type 0 = λ j. IsTaken c.args.core.now c.args.id j c.take.new.self in subst P c.in-None.is c.take.ensures) in
    let items : c.reserve.new.self.items ≡ c.args.self.now = search rules in
    (None, Take c.args.id None ∷ [], inl refl, (c.take.new.self, took, refl), items, refl, λ own none. refl)
