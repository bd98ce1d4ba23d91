use Rattle.cluster.proofs.Prelude.{◌≡◌, ◌++◌, take, elements_at, driven_nets}
use Rattle.cluster.proofs.driven_nets.add_driven.Given as goal

abbrev pub invariant-loop-member : goal.invariant-loop-member
invariant-loop-member l = l.nets ≡ l.fn.nets ++ driven_nets l.uses l.driver (elements_at l.bles (take l.member-index l.members))
