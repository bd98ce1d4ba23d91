use Rattle.ble_cluster.proofs.Prelude.{arith}
use Rattle.ble_cluster.proofs.KeyLemmas.{are_lacks, lacks_within}
use Rattle.ble_cluster.proofs.keys.lacks.Goals as goal

pub returns-clause-lacks : goal.returns-clause-lacks
returns-clause-lacks c = are_lacks _ _ c.args.most (omega (arith, c.loop-number.invariant.count)) (λ number small. c.loop-number.invariant.sum number (omega (arith, small)))

pub returns-clause-within : goal.returns-clause-within
returns-clause-within c = record {
  each = lacks_within c.args.bles.now _ c.args.most (omega (arith, c.loop-number.invariant.count)) (λ number small. c.loop-number.invariant.sum number (omega (arith, small)));
  few = c.requires.few;
}
