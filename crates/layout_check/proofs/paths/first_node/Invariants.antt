use Rattle.layout_check.proofs.Prelude.{◌≡◌, [], take, path_nodes}
use Rattle.layout_check.proofs.paths.first_node.Given as goal

abbrev pub invariant-loop-path : goal.invariant-loop-path
invariant-loop-path l = path_nodes (take l.path-index l.paths) ≡ []
