use Rattle.layout_check.proofs.Prelude.{◌++◌, ap, arith, sym, ◌∙◌, List, ℕ, append-nil}
use Rattle.layout_check.proofs.Numbers.{hops_all, hops_more, steps_short}
use Rattle.layout_check.proofs.numbered.add_hops.Goals as goal

pub returns-then-numbers-lt2 : goal.returns-then-numbers-lt2
returns-then-numbers-lt2 c = sym (append-nil c.args.hops.now.items) ∙ ap (λ (more : List (ℕ × ℕ)). c.args.hops.now.items ++ more) (sym (steps_short c.args.numbers.now (omega arith)))

pub loop-i-preserved : goal.loop-i-preserved
loop-i-preserved c = hops_more c.args.hops.now.items c.loop-i.hops.items c.push.new.self.items c.args.numbers.now c.loop-i.i c.loop-i.invariant (omega arith) c.in_ok-push.ensures.items

pub returns : goal.returns
returns c = c.loop-i.invariant ∙ ap (λ (more : List (ℕ × ℕ)). c.args.hops.now.items ++ more) (hops_all c.args.numbers.now c.loop-i.i (omega arith))
