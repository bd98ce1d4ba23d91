use Rattle.strip_place.proofs.Prelude.{◌≡◌, map, take, option_map, BlockKey, keys_of, kept_place, site_of}
use Rattle.strip_place.proofs.start.kept_by_block.Given as goal

abbrev pub invariant-loop-block : goal.invariant-loop-block
invariant-loop-block l = l.sites.items ≡ map (λ (key : BlockKey). option_map (site_of l.fn.strip key.kind) (kept_place l.kept key)) (take l.block (keys_of l.packed))
