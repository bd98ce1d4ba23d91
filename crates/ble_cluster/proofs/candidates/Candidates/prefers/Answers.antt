use Rattle.ble_cluster.proofs.Prelude.{arith}
use Rattle.ble_cluster.proofs.candidates.Candidates.prefers.Goals as goal

pub beats-requires : goal.beats-requires
beats-requires c = record {
  small = omega (arith, c.requires.small, c.args.self.now.under_way.gains_count);
  best_small = λ other is. omega (arith, c.requires.best_small other is, c.args.self.now.under_way.gains_count);
}
