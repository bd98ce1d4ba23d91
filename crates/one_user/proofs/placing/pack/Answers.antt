use Rattle.one_user.proofs.Prelude.{arith, few_steps}
use Rattle.one_user.proofs.placing.pack.Goals as goal

pub unreachable-requires : goal.unreachable-requires
unreachable-requires c = absurd (omega (arith, c.loop-made.invariant.more, c.loop-made-test.false, few_steps c.args.circuit.now c.args.arch.now c.laws.ensures c.laws-2.ensures))
