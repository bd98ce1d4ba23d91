use Rattle.longest_path.proofs.Prelude.{◌≡◌, ◌++◌, map, take}
use Rattle.longest_path.proofs.longest.starts_of.Given as goal

abbrev pub invariant-loop-latch : goal.invariant-loop-latch
invariant-loop-latch l = l.starts.items ≡ l.fn.circuit.inputs ++ map (λ latch. latch.output) (take l.latch-index l.fn.circuit.latches)
