use Rattle.blif.proofs.Prelude.{◌≡◌, ◌++◌, take, map, has_name}
use Rattle.blif.proofs.driven.marks.Given as goal

-- the marks so far
abbrev pub invariant-loop-number : goal.invariant-loop-number
invariant-loop-number l = l.marks.items ≡ map (has_name (l.clocks ++ l.drivers)) (take l.number l.nets)
