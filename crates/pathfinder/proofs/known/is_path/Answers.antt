use Rattle.pathfinder.proofs.Prelude.{◌∙◌, ◌-◌, length, get_or, arith, sym}
use Rattle.pathfinder.proofs.Steps.{any_true}
use Rattle.pathfinder.proofs.Ways.{path_from}
use Rattle.pathfinder.proofs.known.is_path.Goals as goal

pub returns : goal.returns
returns c = λ graph joined is.
    path_from graph c.args.goal c.args.starts.now c.args.nodes.now (omega (arith, c.if-nodes-eq0.false))
    (any_true (get_or c.args.nodes.now 0 0) c.args.starts.now (sym c.contains.ensures.value ∙ is)) joined
    (length c.args.nodes.now - 1) (omega (arith, c.if-nodes-eq0.false)) c.if-nodes-goal.false
