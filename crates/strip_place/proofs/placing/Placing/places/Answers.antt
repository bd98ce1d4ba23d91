use Rattle.strip_place.proofs.Prelude.{◌≡◌, ◌∙◌, ◌<◌, ◌++◌, ◌∷◌, List, [], ap, sym, arith, length, get_or, take, take_all, take_more, get_or_from_slice_get, PackedCircuit, blocks_of, Place, places_by_block}
use Rattle.strip_place.proofs.placing.Placing.places.Goals as goal

pub loop-block-preserved : goal.loop-block-preserved
loop-block-preserved c =
    let all = places_by_block c.args.self.now in
    let place = c.place_of.result in
    let many = ap (λ (packed : PackedCircuit). length (blocks_of packed)) c.packed.ensures in
    let within : c.loop-block.block < length all = omega (arith, c.loop-block-test.true, c.laws.ensures.long, c.block_count-block-end.ensures, many) in
    let is : get_or all c.loop-block.block place ≡ place = get_or_from_slice_get all c.loop-block.block place place c.place_of.ensures in
    c.in_ok-push.ensures.items ∙ ap (λ (places : List Place). places ++ place ∷ []) c.loop-block.invariant
    ∙ sym (take_more all c.loop-block.block place within ∙ ap (λ (p : Place). take c.loop-block.block all ++ p ∷ []) is)

pub returns-clause-exact : goal.returns-clause-exact
returns-clause-exact c =
    let many = ap (λ (packed : PackedCircuit). length (blocks_of packed)) c.packed.ensures in
    c.loop-block.invariant ∙ take_all c.loop-block.block (places_by_block c.args.self.now) (omega (arith, c.loop-block-test.false, c.laws.ensures.long, c.block_count-block-end.ensures, many))
