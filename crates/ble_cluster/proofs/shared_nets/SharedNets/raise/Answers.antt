use Rattle.ble_cluster.proofs.Prelude.{arith}
use Rattle.ble_cluster.proofs.Raising.{once_before, raised_more}
use Rattle.ble_cluster.proofs.shared_nets.SharedNets.raise.Goals as goal

pub raise_one-requires : goal.raise_one-requires
raise_one-requires c =
    let place = c.loop-number.number-index in
    let number = c.args.numbers.now in
    let inside = c.requires.within place 0 (omega arith) in
    let before = once_before c.args.numbers.now place (omega arith) c.requires.once in
    let raised = c.loop-number.invariant.raised _ inside in
    let room = c.requires.room _ 0 inside in
    record { within = omega (arith, inside, c.loop-number.invariant.count); room = grind (arith, before, raised, room) }

pub loop-number-preserved : goal.loop-number-preserved
loop-number-preserved c =
    let place = c.loop-number.number-index in
    rw c.in_ok-raise_one.ensures.ok (raised_more c.args.self.now c.loop-number.self c.args.numbers.now place (omega arith) (c.requires.within place 0 (omega arith)) c.requires.once c.loop-number.invariant)
