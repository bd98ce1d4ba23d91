use Rattle.job_state.proofs.Prelude.{◌-◌}
use Rattle.job_state.proofs.Keeping.{ended, kept_over}
use Rattle.job_state.proofs.Routings.{no_path_made, routed_made}
use Rattle.job_state.proofs.parked.Parked.routing_end.Goals as goal

pub returns-in-Routed-clause-value : goal.returns-in-Routed-clause-value
returns-in-Routed-clause-value c =
    (_, ended c.args.self.now c.self.inside.step _ c.self.inside.made c.self.view_is (rw (← c.deref.ensures, c.in-Routed.is) at c.self.invariant) c.requires.over c.requires.put, c.routes.ensures)

pub returns-in-Routed-clause-nets : goal.returns-in-Routed-clause-nets
returns-in-Routed-clause-nets c =
    let job = c.args.self.now in
    let kept = kept_over job c.self.inside.step _ c.self.inside.made c.self.view_is (rw (← c.deref.ensures, c.in-Routed.is) at c.self.invariant) c.requires.put in
    rw c.routes.ensures (routed_made job.step.sources (job.step.number - 1) _ c.requires.kind kept.value)

pub returns-in-GaveUp-clause-value : goal.returns-in-GaveUp-clause-value
returns-in-GaveUp-clause-value c =
    ended c.args.self.now c.self.inside.step _ c.self.inside.made c.self.view_is (rw (← c.deref.ensures, c.in-GaveUp.is) at c.self.invariant) c.requires.over c.requires.put

pub returns-in-NoPath-clause-value : goal.returns-in-NoPath-clause-value
returns-in-NoPath-clause-value c =
    ended c.args.self.now c.self.inside.step _ c.self.inside.made c.self.view_is (rw (← c.deref.ensures, c.in-NoPath.is) at c.self.invariant) c.requires.over c.requires.put

pub returns-in-NoPath-clause-nets : goal.returns-in-NoPath-clause-nets
returns-in-NoPath-clause-nets c =
    let job = c.args.self.now in
    let kept = kept_over job c.self.inside.step _ c.self.inside.made c.self.view_is (rw (← c.deref.ensures, c.in-NoPath.is) at c.self.invariant) c.requires.put in
    no_path_made job.step.sources (job.step.number - 1) _ c.requires.kind kept.value
