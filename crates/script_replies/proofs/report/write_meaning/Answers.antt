use Rattle.script_replies.proofs.Prelude.{part_first, writes_part, writes_then}
use Rattle.script_replies.proofs.report.write_meaning.Goals as goal

pub returns-in_err-write_advice : goal.returns-in_err-write_advice
returns-in_err-write_advice g c =
    writes_part _ c.from_residual.ensures.0 (part_first _ c.in_err-write_advice.ensures)

pub returns : goal.returns
returns g c = writes_then c.in_ok-write_advice.ensures _ _ c.write_count.result c.write_count.ensures
