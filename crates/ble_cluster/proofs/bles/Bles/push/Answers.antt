use Rattle.ble_cluster.proofs.Prelude.{arith, rules, common_steps, distinct_nets}
use Rattle.ble_cluster.proofs.FlatElements.{bles_push}
use Rattle.ble_cluster.proofs.bles.Bles.push.Goals as goal

pub returns : goal.returns
returns c =
    let inputs = c.self.inside.inputs in
    rw (c.in_ok-push_distinct.ensures.added, c.in_ok-push.ensures.items, ← c.self.view_is)
    (bles_push inputs.items (distinct_nets c.args.nets.now) c.self.inside.bles.items _ _ c.args.output c.args.clock c.self.invariant (search rules) (grind (arith, common_steps)))
