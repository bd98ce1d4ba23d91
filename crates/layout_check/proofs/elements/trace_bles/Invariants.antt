use Rattle.layout_check.proofs.Prelude.{◌≡◌, map, take, flat_map, traced_ble}
use Rattle.layout_check.proofs.elements.trace_bles.Given as goal

abbrev pub invariant-loop-block : goal.invariant-loop-block
invariant-loop-block l = l.elements.items ≡ flat_map (λ block. map (traced_ble l.arch block) block.bles) (take l.block-index l.blocks)
