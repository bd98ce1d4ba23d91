use Rattle.live_run.proofs.beginning.write_sum.Goals as goal

pub returns : goal.returns
returns g c = rw (c.as_bytes.ensures.value, c.format.ensures.text, c.sum_of-sum.ensures) at c.write_slices.ensures
