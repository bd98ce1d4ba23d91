use Rattle.tagged_lines.proofs.Prelude.{writes_then}
use Rattle.tagged_lines.proofs.writing.write_with_end.Goals as goal

pub returns : goal.returns
returns g c = writes_then c.in_ok-write_tagged.ensures _ _ c.write_tagged-2.result c.write_tagged-2.ensures
