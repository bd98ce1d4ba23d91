use Rattle.settling.proofs.Prelude.{◌≡◌, ◌+◌, length, puts_counted}
use Rattle.settling.proofs.counting.merge_shares.Given as goal

abbrev pub invariant-loop-share : goal.invariant-loop-share
invariant-loop-share g l = (l.all.parts + length l.left.items ≡ length l.fn.shares.items) × (l.all.amount + puts_counted l.left.items ≡ puts_counted l.fn.shares.items)

abbrev pub decreases-loop-share : goal.decreases-loop-share
decreases-loop-share g l = goal.left-loop-share g l
