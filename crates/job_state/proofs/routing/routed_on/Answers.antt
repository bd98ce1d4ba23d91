use Rattle.job_state.proofs.Prelude.{on_trees, refl, on_strip}
use Rattle.job_state.proofs.There.{both_there}
use Rattle.job_state.proofs.routing.routed_on.Goals as goal

pub invariant_of-result : goal.invariant_of-result
invariant_of-result c = both_there (on_strip c.args.arch c.args.strip) c.args.arch c.args.strip (on_trees c.args.routes) c.args.pads.items refl refl c.requires.routes c.requires.pads
