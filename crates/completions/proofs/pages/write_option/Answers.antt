use Rattle.line_text.proofs.WritingLemmas.{part_first, writes_part, writes_then}
use Rattle.completions.proofs.pages.write_option.Goals as goal

pub returns-in_err-write_option_head : goal.returns-in_err-write_option_head
returns-in_err-write_option_head g c = writes_part _ c.from_residual.ensures.0 (part_first _ c.in_err-write_option_head.ensures)

pub returns : goal.returns
returns g c = writes_then c.in_ok-write_option_head.ensures _ _ c.write_text.result c.write_text.ensures
