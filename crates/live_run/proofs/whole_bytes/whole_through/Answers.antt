use Rattle.live_run.proofs.Prelude.{◌≡◌, ℕ, List, length, take, arith, sym}
use Rattle.live_run.proofs.WholeParts.{after_more, after_none}
use Rattle.live_run.proofs.whole_bytes.whole_through.Goals as goal

pub loop-count-preserved-then-part-gt0 : goal.loop-count-preserved-then-part-gt0
loop-count-preserved-then-part-gt0 g c =
    let inv = c.loop-count.invariant in
    let part : List ℕ = take c.in-Ok.count c.read.new.buffer in
    let few : length part ≡ c.in-Ok.count = sym c.in-Ok.ensures.bound.1 in
    after_more _ _ _ inv.0 part c.loop-count.length inv.1 c.in-Ok.ensures.bytes.0 inv.2 c.in-Some.read c.whole_part-part.result
    c.whole_part-part.ensures.value c.if-part-gt0.true (omega (arith, few, c.in-Some.ensures))

pub loop-count-preserved : goal.loop-count-preserved
loop-count-preserved g c =
    let inv = c.loop-count.invariant in
    let part : List ℕ = take c.in-Ok.count c.read.new.buffer in
    let few : length part ≡ c.in-Ok.count = sym c.in-Ok.ensures.bound.1 in
    after_none _ _ _ inv.0 part c.loop-count.length inv.1 c.in-Ok.ensures.bytes.0 inv.2 c.in-Some.read c.whole_part-part.result c.loop-count.whole
    c.whole_part-part.ensures.value (omega (arith, c.if-part-gt0.false)) (omega (arith, few, c.in-Some.ensures)) inv.3
