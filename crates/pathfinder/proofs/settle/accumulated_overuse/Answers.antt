use Rattle.pathfinder.proofs.Prelude.{◌-◌, ◌+◌, ◌∙◌, ap, arith, wiring_of}
use Rattle.std.specs.Prelude.{slice_index}
use Rattle.pathfinder.proofs.Settled.{is_risen, no_rate}
use Rattle.pathfinder.proofs.settle.accumulated_overuse.Goals as goal

pub returns-clause-risen : goal.returns-clause-risen
returns-clause-risen c = λ basis before trees known t.
    let w = wiring_of basis in
    is_risen w c.args.history.items c.loop-node.history.items c.args.held.now trees t (omega (arith, c.loop-node.invariant.long, c.requires.past.long, c.requires.now.long, known.long))
    (λ node l. c.loop-node.invariant.done node no_rate (omega (arith, l, c.loop-node-test.false, c.requires.now.long, known.long))
    ∙ ap (λ k. slice_index c.args.history.items node + (slice_index c.args.held.now node - k)) (known.capacity node no_rate l))
