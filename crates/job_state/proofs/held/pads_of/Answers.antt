use Rattle.job_state.proofs.Prelude.{◌≡◌, ◌++◌, ◌∙◌, ap, sym, subst, length, arith, get_or_from_slice_get, place_at, Cluster, blocks_of, PackedCircuit, IsStripSize, places_by_block, block_at, place_of, AreThere, pad_of, pads_below}
use Rattle.job_state.proofs.Gathered.{gathered_to}
use Rattle.job_state.proofs.Pads.{pads_there}
use Rattle.job_state.proofs.held.pads_of.Goals as goal

pub loop-block-preserved : goal.loop-block-preserved
loop-block-preserved c =
    let packed = c.args.placing.now.packed in
    let places = places_by_block c.args.placing.now in
    let block = c.loop-block.block in
    let of_block : block_at packed block ≡ c.block.result = get_or_from_slice_get (blocks_of packed) block c.block.result (Cluster 0) (rw c.packed-in-loop-block.ensures at c.block.ensures) in
    let of_place : place_of places block ≡ c.place_of.result = get_or_from_slice_get places block c.place_of.result (place_at 0 0 0) c.place_of.ensures in
    c.in_ok-pads.ensures ∙ (ap (λ t. t ++ pad_of c.block.result c.place_of.result) c.loop-block.invariant
    ∙ (ap (λ t. pads_below packed places block ++ pad_of t c.place_of.result) (sym of_block) ∙ (ap (λ t. pads_below packed places block ++ pad_of (block_at packed block) t) (sym of_place)
    ∙ gathered_to (λ number. pad_of (block_at packed number) (place_of places number)) block)))

pub returns-clause-there : goal.returns-clause-there
returns-clause-there c =
    let placing = c.args.placing.now in
    let places = places_by_block placing in
    let count : c.loop-block.block ≡ length (blocks_of placing.packed) =
    omega (arith, c.loop-block.auto.block-end, c.loop-block-test.false, c.block_count-block-end.ensures, ap (λ (packed : PackedCircuit). length (blocks_of packed)) c.packed.ensures) in
    let size : IsStripSize placing.strip = rw c.strip-strip.ensures.value at c.strip-strip.ensures.size in
    subst (λ pads. AreThere (record { arch = placing.packed.arch; strip = placing.strip }) pads) (sym (c.loop-block.invariant ∙ ap (pads_below placing.packed places) count))
    (pads_there placing.packed.arch placing.strip placing.packed places c.laws.ensures (λ kind. c.laws_of_places.ensures.within placing.strip kind size))
