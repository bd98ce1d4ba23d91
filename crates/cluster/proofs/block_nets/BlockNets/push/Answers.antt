use Rattle.cluster.proofs.Prelude.{arith, rules, ap, List, ℕ, length}
use Rattle.cluster.proofs.FlatNets.{nets_push}
use Rattle.cluster.proofs.block_nets.BlockNets.push.Goals as goal

pub returns : goal.returns
returns c =
    let readers = ap (λ (readers : List ℕ). length readers) c.in_ok-add_others.ensures.added in
    rw (c.in_ok-add_others.ensures.added, c.in_ok-push.ensures.items, ← c.self.view_is)
    (nets_push c.self.inside.readers.items _ c.self.inside.nets.items c.args.net.net c.args.net.driver _ _ c.args.net.global c.self.invariant (search rules) (omega (arith, readers, c.len-end.ensures)))
