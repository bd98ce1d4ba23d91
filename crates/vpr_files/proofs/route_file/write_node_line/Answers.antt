use Rattle.vpr_files.proofs.Prelude.{◌∷◌, [], writes_then}
use Rattle.vpr_files.proofs.route_file.write_node_line.Goals as goal

pub returns : goal.returns
returns g c = writes_then c.in_ok-write_node.ensures c.end_line.new.sink (10 ∷ []) c.end_line.result c.end_line.ensures
