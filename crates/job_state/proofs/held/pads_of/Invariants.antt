use Rattle.job_state.proofs.Prelude.{◌≡◌, places_by_block, pads_below}
use Rattle.job_state.proofs.held.pads_of.Given as goal

abbrev pub invariant-loop-block : goal.invariant-loop-block
invariant-loop-block l = l.pads.items ≡ pads_below l.placing.packed (places_by_block l.placing) l.block
