use Rattle.job_state.proofs.Prelude.{◌-◌, ◌∙◌, sym, ap, subst, Basis, has, AreThere}
use Rattle.job_state.proofs.HeldAtEnd.{held_is, nothing_held}
use Rattle.job_state.proofs.Keeping.{ended, kept_over}
use Rattle.job_state.proofs.Routings.{routed_on_strip}
use Rattle.job_state.proofs.parked.Parked.resources.Goals as goal

pub returns-in-Routed-clause-exact : goal.returns-in-Routed-clause-exact
returns-in-Routed-clause-exact c =
    let job = c.args.self.now in
    let end = ended job c.self.inside.step _ c.self.inside.made c.self.view_is (rw (← c.deref.ensures, c.in-Routed.is) at c.self.invariant) c.requires.over c.requires.put in
    λ r. c.resources.ensures.lists.exact r ∙ ap (λ all. has all r) (sym (held_is job.step.sources c.in-Routed.listed end))

pub returns-in-Routed-clause-there : goal.returns-in-Routed-clause-there
returns-in-Routed-clause-there c =
    let job = c.args.self.now in
    let kept = kept_over job c.self.inside.step _ c.self.inside.made c.self.view_is (rw (← c.deref.ensures, c.in-Routed.is) at c.self.invariant) c.requires.put in
    subst (λ (basis : Basis). AreThere basis c.resources.result.now) (routed_on_strip job.step.sources (job.step.number - 1) c.in-Routed.listed c.requires.kind kept.value) c.resources.ensures.there

pub returns-in_default-clause-exact : goal.returns-in_default-clause-exact
returns-in_default-clause-exact c =
    let job = c.args.self.now in
    let end = ended job c.self.inside.step _ c.self.inside.made c.self.view_is c.self.invariant c.requires.over c.requires.put in
    λ r. sym (ap (λ all. has all r) (nothing_held job.step.sources c.self.inside.work.value end (rw c.deref.ensures at c.in_default.not-Routed)))
