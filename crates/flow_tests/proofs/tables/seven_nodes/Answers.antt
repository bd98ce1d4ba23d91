use Rattle.flow_tests.proofs.Prelude.{length, ap}
use Rattle.flow_tests.proofs.Pairs.{rising_in}
use Rattle.flow_tests.proofs.tables.seven_nodes.Goals as goal

pub invariant_of-result-clause-rising : goal.invariant_of-result-clause-rising
invariant_of-result-clause-rising c = rising_in c.in_ok-vec.field-0.items c.in_ok-vec-2.field-0.items c.in_ok-vec.ensures.items (ap length c.in_ok-vec-2.ensures.items)
