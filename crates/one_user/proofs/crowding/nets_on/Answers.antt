use Rattle.one_user.proofs.Prelude.{Bool, ℕ, [], Global, Vec, ap, slice_index_or, sym, ◌∙◌, has_node}
use Rattle.one_user.proofs.Told.{no_net, one_net}
use Rattle.one_user.proofs.crowding.nets_on.Goals as goal
use Rattle.one_user.proofs.crowding.nets_on.Goals.{then-has_node+in_ok-push, else-has_node}

pub loop-net-preserved : goal.loop-net-preserved
loop-net-preserved c =
    let test : ℕ → Bool = λ net. has_node (slice_index_or c.args.routing.now.trees net []) c.args.node in
    elim c.if-has_node.branch [
      | then-has_node+in_ok-push w ↦ one_net test c.loop-net.net c.loop-net.nets.items c.if-has_node.nets.items c.loop-net.invariant (sym c.has_node.ensures ∙ w.if-has_node.true) (ap (λ (v : Vec ℕ Global). v.items) w.nets-is ∙ w.in_ok-push.ensures.items)
      | else-has_node w ↦ no_net test c.loop-net.net c.loop-net.nets.items c.if-has_node.nets.items c.loop-net.invariant (sym c.has_node.ensures ∙ w.if-has_node.false) (ap (λ (v : Vec ℕ Global). v.items) w.nets-is)
    ]
