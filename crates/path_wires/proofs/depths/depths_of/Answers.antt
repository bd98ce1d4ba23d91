use Rattle.path_wires.proofs.Prelude.{ℕ, ◌≡◌, ◌+◌, ◌∙◌, List, length, ap, sym, subst, arith, RouteNode, AreSmall, AreUpTo, depth_at}
use Rattle.path_wires.proofs.Along.{small_more, up_to_more}
use Rattle.path_wires.proofs.depths.depths_of.Goals as goal

pub loop-place-preserved : goal.loop-place-preserved
loop-place-preserved c =
    let nodes : List RouteNode = c.args.nodes.now in
    let old : List ℕ = c.loop-place.depths.items in
    let place : ℕ = c.loop-place.place in
    let depth : ℕ = c.depth_at-depth.result in
    let slice : c.deref.result.now ≡ old = c.deref.ensures.value in
    let is : depth ≡ depth_at nodes old place = c.depth_at-depth.ensures.value ∙ ap (λ (depths : List ℕ). depth_at nodes depths place) slice in
    record {
      long = grind arith;
      each = subst (λ (depths : List ℕ). AreUpTo nodes depths (place + 1)) (sym c.in_ok-push.ensures.items) (up_to_more nodes old place depth c.loop-place.invariant.long is c.loop-place.invariant.each);
      small = subst AreSmall (sym c.in_ok-push.ensures.items) (small_more old place depth c.loop-place.invariant.long c.depth_at-depth.ensures.small c.loop-place.invariant.small);
    }
