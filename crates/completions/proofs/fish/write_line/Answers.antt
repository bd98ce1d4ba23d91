use Rattle.line_text.proofs.WritingLemmas.{part_first, writes_part, writes_then}
use Rattle.completions.proofs.fish.write_line.Goals as goal

pub returns-in_err-write_front : goal.returns-in_err-write_front
returns-in_err-write_front g c = writes_part _ c.from_residual.ensures.0 (part_first _ c.in_err-write_front.ensures)

pub returns : goal.returns
returns g c = writes_then c.in_ok-write_front.ensures _ _ c.write_quoted.result c.write_quoted.ensures
