use Rattle.longest_path.proofs.Prelude.{◌≡◌, ◌++◌, map, take}
use Rattle.longest_path.proofs.longest.ends_of.Given as goal

abbrev pub invariant-loop-latch : goal.invariant-loop-latch
invariant-loop-latch l = l.ends.items ≡ l.fn.circuit.outputs ++ map (λ latch. latch.input) (take l.latch-index l.fn.circuit.latches)
