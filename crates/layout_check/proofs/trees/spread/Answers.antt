use Rattle.layout_check.proofs.Prelude.{◌≡◌, Bool, arith, rules, cond, ap, ◌∙◌, sym, true}
use Rattle.layout_check.proofs.Hops.{followed_all, followed_more}
use Rattle.layout_check.proofs.trees.spread.Goals as goal
use Rattle.layout_check.proofs.trees.spread.Goals.{then-follow, else-follow}

pub loop-hop-preserved : goal.loop-hop-preserved
loop-hop-preserved c =
    let is : c.if-follow.has_grown ≡ cond c.follow.result true c.loop-hop.has_grown = elim c.if-follow.branch [
      | then-follow w ↦ w.has_grown-is ∙ ap {A = Bool} {B = Bool} (λ r. cond r true c.loop-hop.has_grown) (sym w.if-follow.true)
      | else-follow w ↦ w.has_grown-is ∙ ap {A = Bool} {B = Bool} (λ r. cond r true c.loop-hop.has_grown) (sym w.if-follow.false)
    ] in
    followed_more c.args.hops.now c.loop-hop.hop-index c.args.reached.now c.loop-hop.reached c.loop-hop.has_grown c.loop-hop.invariant (omega arith) (search rules) c.follow.result c.follow.ensures.value c.follow.new.reached
    c.follow.ensures.new c.if-follow.has_grown is

pub returns-clause-cases : goal.returns-clause-cases
returns-clause-cases c = followed_all c.args.hops.now c.loop-hop.hop-index c.args.reached.now c.loop-hop.reached c.loop-hop.has_grown (omega arith) c.loop-hop.invariant
