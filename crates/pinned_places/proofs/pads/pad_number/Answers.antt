use Rattle.pinned_places.proofs.Prelude.{◌≡◌, ◌∙◌, sym, arith, length, length-map, blocks_of, key_of, keys_of, Cluster, is_pad_named}
use Rattle.pinned_places.proofs.Named.{first_at, nowhere}
use Rattle.pinned_places.proofs.pads.pad_number.Goals as goal

pub returns-then-is_pad_named : goal.returns-then-is_pad_named
returns-then-is_pad_named c = sym (first_at (is_pad_named c.args.name.now) (keys_of c.args.packed.now) c.loop-block.block _ c.loop-block.invariant c.key.ensures (sym c.if-is_pad_named.ensures))

pub returns : goal.returns
returns c =
    sym (nowhere (is_pad_named c.args.name.now) (keys_of c.args.packed.now) c.loop-block.block (key_of c.args.packed.now (Cluster 0)) c.loop-block.invariant
    (omega (arith, length-map (blocks_of c.args.packed.now) (key_of c.args.packed.now), c.block_count-block-end.ensures, c.loop-block-test.false)))
