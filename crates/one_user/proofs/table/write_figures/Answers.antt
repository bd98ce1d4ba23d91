use Rattle.one_user.proofs.Prelude.{part_first, writes_part, writes_then}
use Rattle.one_user.proofs.table.write_figures.Goals as goal

pub returns-in_err-write_counts : goal.returns-in_err-write_counts
returns-in_err-write_counts g c = writes_part _ c.from_residual.ensures.0 (part_first _ c.in_err-write_counts.ensures)

pub returns : goal.returns
returns g c = writes_then c.in_ok-write_counts.ensures _ _ c.write_fullest.result c.write_fullest.ensures
