use Rattle.live_run.proofs.Prelude.{part_first, part_then, writes_part, writes_then}
use Rattle.live_run.proofs.beginning.write_heading.Goals as goal

pub returns-in_err-write_sizes : goal.returns-in_err-write_sizes
returns-in_err-write_sizes g c =
    writes_part _ c.from_residual.ensures.0 (part_first _ c.in_err-write_sizes.ensures)

pub returns-in_err-write_memory : goal.returns-in_err-write_memory
returns-in_err-write_memory g c =
    writes_part _ c.from_residual-in_err-write_memory.ensures.0
    (part_then c.in_ok-write_sizes.ensures (part_first _ c.in_err-write_memory.ensures))

pub returns : goal.returns
returns g c =
    writes_then c.in_ok-write_sizes.ensures _ _ c.write_sum.result
    (writes_then c.in_ok-write_memory.ensures _ _ c.write_sum.result c.write_sum.ensures)
