use Rattle.ble_cluster.proofs.Prelude.{arith}
use Rattle.ble_cluster.proofs.KeyLemmas.{counts_within}
use Rattle.ble_cluster.proofs.keys.outside_counts.Goals as goal

pub returns-clause-within : goal.returns-clause-within
returns-clause-within c = record {
  each = counts_within c.args.bles.now _ c.args.most c.requires (omega (arith, c.loop-number.invariant.count)) (λ number small. c.loop-number.invariant.counted number (omega (arith, small)));
  few = c.requires.few;
}
