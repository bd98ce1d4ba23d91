use Rattle.layout_check.proofs.Prelude.{◌≡◌, take, flat_map, pad_nets}
use Rattle.layout_check.proofs.ports.has_pads.Given as goal

abbrev pub invariant-loop-block : goal.invariant-loop-block
invariant-loop-block l = l.found.items ≡ flat_map (λ laid. pad_nets l.pads laid.block) (take l.block-index l.blocks)
