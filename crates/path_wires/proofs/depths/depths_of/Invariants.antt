use Rattle.path_wires.proofs.Prelude.{◌≡◌, length, AreSmall, AreUpTo}
use Rattle.path_wires.proofs.depths.depths_of.Given as goal

-- the nodes before this one
abbrev pub invariant-loop-place : goal.invariant-loop-place
invariant-loop-place l = record {
  long : length l.depths.items ≡ l.place;
  each : AreUpTo l.nodes l.depths.items l.place;
  small : AreSmall l.depths.items;
}
