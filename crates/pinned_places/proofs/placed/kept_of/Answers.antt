use Rattle.pinned_places.proofs.Prelude.{◌≡◌, ◌≢◌, ◌∙◌, ◌<◌, length, get_or, slice_get, arith, ap, subst, sym, AllPairs, zip, slice_get-get_or, PackedCircuit, blocks_of, keys_of, entries_of, gathered, gathered_all, kept_exact}
use Rattle.pinned_places.proofs.Started.{keys_distinct}
use Rattle.pinned_places.proofs.placed.kept_of.Goals as goal

pub loop-block-preserved : goal.loop-block-preserved
loop-block-preserved c =
    ap entries_of c.in_ok-push.ensures.items
    ∙ gathered c.args.packed.now c.args.places.now c.loop-block.block c.loop-block.entries.items _ c.loop-block.invariant c.key.ensures (slice_get-get_or c.args.places.now c.loop-block.block _ (omega (arith, c.requires, c.block_count-block-end.ensures, c.loop-block-test.true)))

pub of-requires : goal.of-requires
of-requires c =
    let packed = c.args.packed.now in
    let all = gathered_all packed c.args.places.now c.loop-block.block c.loop-block.entries.items (omega (arith, c.block_count-block-end.ensures, c.loop-block-test.false)) c.loop-block.invariant in
    keys_distinct packed c.args.places.now c.loop-block.entries.items c.requires (c.laws_of_packing.ensures packed c.circuit.ensures.lawful).keys all

pub returns : goal.returns
returns c =
    let all = gathered_all c.args.packed.now c.args.places.now c.loop-block.block c.loop-block.entries.items (omega (arith, c.block_count-block-end.ensures, c.loop-block-test.false)) c.loop-block.invariant in
    kept_exact c.args.packed.now c.args.places.now c.loop-block.entries.items c.of.result all c.of.ensures
