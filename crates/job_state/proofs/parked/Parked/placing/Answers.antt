use Rattle.job_state.proofs.Keeping.{ended, placing_ended}
use Rattle.job_state.proofs.parked.Parked.placing.Goals as goal

pub returns-clause-value : goal.returns-clause-value
returns-clause-value c =
    ended c.args.self.now c.self.inside.step _ c.self.inside.made c.self.view_is (rw (← c.deref.ensures, c.in-Placed.is) at c.self.invariant) c.requires.over c.requires.put

pub returns-clause-exact : goal.returns-clause-exact
returns-clause-exact c =
    placing_ended c.args.self.now c.self.inside.step c.in-Placed.placing c.self.inside.made c.self.view_is (rw (← c.deref.ensures, c.in-Placed.is) at c.self.invariant) c.requires.over c.requires.put c.requires.kind
