use Rattle.line_text.proofs.WritingLemmas.{part_first, part_then, writes_part, writes_then}
use Rattle.completions.proofs.pages.write_tool.Goals as goal

pub returns-in_err-write_head : goal.returns-in_err-write_head
returns-in_err-write_head g c = writes_part _ c.from_residual.ensures.0 (part_first _ c.in_err-write_head.ensures)

pub returns-in_err-write_text : goal.returns-in_err-write_text
returns-in_err-write_text g c = writes_part _ c.from_residual-in_err-write_text.ensures.0 (part_then c.in_ok-write_head.ensures (part_first _ c.in_err-write_text.ensures))

pub returns-in_err-write_options : goal.returns-in_err-write_options
returns-in_err-write_options g c = writes_part _ c.from_residual-in_err-write_options.ensures.0 (part_then c.in_ok-write_head.ensures (part_then c.in_ok-write_text.ensures (part_first _ c.in_err-write_options.ensures)))

pub returns-in_err-write_parts : goal.returns-in_err-write_parts
returns-in_err-write_parts g c = writes_part _ c.from_residual-in_err-write_parts.ensures.0 (part_then c.in_ok-write_head.ensures (part_then c.in_ok-write_text.ensures (part_then c.in_ok-write_options.ensures (part_first _ c.in_err-write_parts.ensures))))

pub returns : goal.returns
returns g c = writes_then c.in_ok-write_head.ensures _ _ c.write_text-2.result (writes_then c.in_ok-write_text.ensures _ _ c.write_text-2.result (writes_then c.in_ok-write_options.ensures _ _ c.write_text-2.result (writes_then c.in_ok-write_parts.ensures _ _ c.write_text-2.result c.write_text-2.ensures)))
