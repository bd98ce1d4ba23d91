use Rattle.layout_check.proofs.Prelude.{ℕ, Bool, true, false, ◌<◌, ◌+◌, cond, not, arith, ap, MatchBool, count_by}
use Rattle.layout_check.proofs.Hops.{with_root}
use Rattle.layout_check.proofs.trees.reach.Goals as goal

pub loop-has_grown-init : goal.loop-has_grown-init
loop-has_grown-init c = rw c.insert.ensures (with_root c.args.hops.now c.args.root c.args.reached.now c.requires.clear c.requires.root)

falls : (old new : ℕ) (is : Bool) (Q : Type 0) → MatchBool is (new < old) Q → cond {A = ℕ} is (new + 1) 0 < old + 1
falls old new true Q less = omega (arith, less)
falls old new false Q closed = omega arith

pub loop-has_grown-smaller : goal.loop-has_grown-smaller
loop-has_grown-smaller c =
    let before = ap (λ was. cond {A = ℕ} was (count_by not c.loop-has_grown.reached + 1) 0) c.loop-has_grown-test.true in
    let less = falls (count_by not c.loop-has_grown.reached) (count_by not c.spread-has_grown.new.reached) c.spread-has_grown.result _ c.spread-has_grown.ensures.cases in
    omega (arith, before, less)
