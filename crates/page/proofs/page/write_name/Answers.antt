use Rattle.page.proofs.Prelude.{part_first, writes_part, writes_then}
use Rattle.page.proofs.page.write_name.Goals as goal

pub returns-in_err-write_parts : goal.returns-in_err-write_parts
returns-in_err-write_parts g c = writes_part _ c.from_residual.ensures.0 (part_first _ c.in_err-write_parts.ensures)

pub returns : goal.returns
returns g c = writes_then c.in_ok-write_parts.ensures _ _ c.write_shown.result c.write_shown.ensures
