use Rattle.layout_check.proofs.Prelude.{◌≡◌, ◌++◌, take, steps_of}
use Rattle.layout_check.proofs.numbered.add_hops.Given as goal

abbrev pub invariant-loop-i : goal.invariant-loop-i
invariant-loop-i l = l.hops.items ≡ l.initial.hops.items ++ take l.i (steps_of l.numbers)
