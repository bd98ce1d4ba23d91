use Rattle.pinned_places.proofs.Prelude.{◌≡◌, drop, length, with_pads}
use Rattle.pinned_places.proofs.exchange.put_pads.Given as goal

-- the pads that are left go on from these places
abbrev pub invariant-loop-pad : goal.invariant-loop-pad
invariant-loop-pad l = record {
  rest : with_pads l.pads l.fn.places ≡ with_pads (drop l.pad-index l.pads) l.places;
  long : length l.places ≡ length l.fn.places;
}
