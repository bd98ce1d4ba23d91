use Rattle.job_state.proofs.Keeping.{ended}
use Rattle.job_state.proofs.parked.Parked.shared_packed.Goals as goal

pub returns-clause-value : goal.returns-clause-value
returns-clause-value c =
    ended c.args.self.now c.self.inside.step _ c.self.inside.made c.self.view_is (rw (← c.deref.ensures, c.in-Packed.is) at c.self.invariant) c.requires.over c.requires.put
