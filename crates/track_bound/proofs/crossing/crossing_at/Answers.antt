use Rattle.track_bound.proofs.Prelude.{◌≡◌, ◌+◌, arith, ap, BlockNet, block_nets, crosses_column}
use Rattle.track_bound.proofs.Loops.{counted, one_if}
use Rattle.track_bound.proofs.crossing.crossing_at.Goals as goal
use Rattle.track_bound.proofs.crossing.crossing_at.Goals.{then-crosses, else-crosses}

pub loop-number-preserved : goal.loop-number-preserved
loop-number-preserved c =
    let net : BlockNet = record { net = c.net.result.net; driver = c.net.result.driver; readers = c.net.result.readers.now; global = c.net.result.global } in
    let step : c.if-crosses.nets ≡ c.loop-number.nets + one_if c.crosses.result = elim c.if-crosses.branch [
      | then-crosses w ↦ omega (arith, w.nets-is, ap one_if w.if-crosses.true)
      | else-crosses w ↦ omega (arith, w.nets-is, ap one_if w.if-crosses.false)
    ] in
    counted (crosses_column c.args.places.now c.args.column) (block_nets c.args.packed.now) c.loop-number.number net c.crosses.result c.loop-number.nets c.if-crosses.nets c.net.ensures c.crosses.ensures c.loop-number.invariant step
