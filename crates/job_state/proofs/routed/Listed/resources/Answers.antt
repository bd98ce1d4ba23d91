use Rattle.job_state.proofs.Prelude.{subst, AreThere, RoutedCircuit}
use Rattle.job_state.proofs.routed.Listed.resources.Goals as goal

pub returns-clause-there : goal.returns-clause-there
returns-clause-there c = rw c.as_slice.ensures.value (subst (λ (routed : RoutedCircuit). AreThere routed.basis c.self.inside.resources.items) c.self.view_is c.self.invariant.1)
