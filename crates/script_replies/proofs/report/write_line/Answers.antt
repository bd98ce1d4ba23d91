use Rattle.script_replies.proofs.Prelude.{part_first, part_then, writes_part, writes_then}
use Rattle.script_replies.proofs.report.write_line.Goals as goal

pub returns-in_err-write_asked : goal.returns-in_err-write_asked
returns-in_err-write_asked g c =
    writes_part _ c.from_residual.ensures.0 (part_first _ c.in_err-write_asked.ensures)

pub returns-in_err-write_meaning : goal.returns-in_err-write_meaning
returns-in_err-write_meaning g c =
    writes_part _ c.from_residual-in_err-write_meaning.ensures.0
    (part_then c.in_ok-write_asked.ensures (part_first _ c.in_err-write_meaning.ensures))

pub returns : goal.returns
returns g c =
    writes_then c.in_ok-write_asked.ensures _ _ c.write_end.result
    (writes_then c.in_ok-write_meaning.ensures _ _ c.write_end.result c.write_end.ensures)
