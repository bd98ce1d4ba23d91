use Rattle.pinned_places.proofs.Prelude.{◌≡◌, ◌==◌, ◌∙◌, Option, Some, None, option_map, refl, rules, tests, find, option_copied, YieldsList-from_slice, find_from_yields_List, FixedPad}
use Rattle.pinned_places.proofs.Named.{copied}
use Rattle.pinned_places.proofs.pads.same_block.Goals as goal

pub returns : goal.returns
returns c =
    let test = λ (pad : FixedPad). pad.block == c.args.block in
    let found = find_from_yields_List test _ _ c.find.result c.find.ensures.ran (YieldsList-from_slice c.args.pads.now c.iter.ensures.rest) (λ x b q k. search (rules, tests)) in
    c.copied.ensures ∙ copied c.find.result ∙ found
