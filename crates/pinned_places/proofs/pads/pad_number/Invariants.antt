use Rattle.pinned_places.proofs.Prelude.{keys_of, is_pad_named}
use Rattle.pinned_places.proofs.Named.{NoneBefore}
use Rattle.pinned_places.proofs.pads.pad_number.Given as goal

abbrev pub invariant-loop-block : goal.invariant-loop-block
invariant-loop-block l = NoneBefore (is_pad_named l.name) (keys_of l.packed) l.block
