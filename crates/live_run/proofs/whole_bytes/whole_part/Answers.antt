use Rattle.live_run.proofs.Prelude.{◌≡◌, ◌∙◌, length, take, arith, ap, sym, take-length, whole_bytes}
use Rattle.live_run.proofs.WholeParts.{next_end, next_other, whole_within}
use Rattle.live_run.proofs.whole_bytes.whole_part.Goals as goal
use Rattle.live_run.proofs.whole_bytes.whole_part.Goals.{then-bytes-i-eq10, else-bytes-i-eq10}

pub loop-i-preserved : goal.loop-i-preserved
loop-i-preserved c = elim c.if-bytes-i-eq10.branch [
  | then-bytes-i-eq10 w ↦ w.whole-is ∙ sym (next_end c.args.bytes.now c.loop-i.i c.loop-i-test.true w.if-bytes-i-eq10.true)
  | else-bytes-i-eq10 w ↦ w.whole-is ∙ c.loop-i.invariant ∙ sym (next_other c.args.bytes.now c.loop-i.i c.loop-i-test.true w.if-bytes-i-eq10.false)
]

pub returns-clause-within : goal.returns-clause-within
returns-clause-within c =
    let ends : c.loop-i.i ≡ length c.args.bytes.now = (let behind = c.loop-i.auto.i-end in omega (arith, behind, c.loop-i-test.false)) in
    let is : c.loop-i.whole ≡ whole_bytes c.args.bytes.now = c.loop-i.invariant ∙ ap whole_bytes (ap (λ n. take n c.args.bytes.now) ends ∙ take-length c.args.bytes.now) in
    let within = whole_within c.args.bytes.now in
    omega (arith, is, within)
