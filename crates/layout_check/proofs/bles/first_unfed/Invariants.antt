use Rattle.layout_check.proofs.Prelude.{◌≡◌, is_some, take, true, All, input_net}
use Rattle.layout_check.proofs.bles.first_unfed.Given as goal

abbrev pub invariant-loop-k : goal.invariant-loop-k
invariant-loop-k l = All (λ feed. is_some (input_net l.arch l.block feed) ≡ true) (take l.k l.inputs)
