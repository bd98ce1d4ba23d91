use Rattle.one_user.proofs.Prelude.{◌≡◌, ◌<◌, packing_steps}
use Rattle.one_user.proofs.placing.pack.Given as goal

abbrev pub invariant-loop-made : goal.invariant-loop-made
invariant-loop-made l = record {
  is : l.packing ≡ record { circuit = l.circuit; arch = l.arch; made = l._made };
  more : l._made < packing_steps l.circuit l.arch;
}
