use Rattle.line_text.proofs.WritingLemmas.{part_first, part_then, writes_part, writes_then}
use Rattle.completions.proofs.shells.write_case.Goals as goal

pub returns-in_err-write_front : goal.returns-in_err-write_front
returns-in_err-write_front g c = writes_part _ c.from_residual.ensures.0 (part_first _ c.in_err-write_front.ensures)

pub returns-in_err-write_options : goal.returns-in_err-write_options
returns-in_err-write_options g c = writes_part _ c.from_residual-in_err-write_options.ensures.0 (part_then c.in_ok-write_front.ensures (part_first _ c.in_err-write_options.ensures))

pub returns : goal.returns
returns g c = writes_then c.in_ok-write_front.ensures _ _ c.write_parts.result (writes_then c.in_ok-write_options.ensures _ _ c.write_parts.result c.write_parts.ensures)
