use Rattle.configuration_text.proofs.Prelude.{◌∙◌, [], ◌<◌, List, ℕ, None, ap, get_or, length, rules, filled_places, free_from, slice_get-get_or}
use Rattle.configuration_text.proofs.Places.{fill_end, fill_more, free_all}
use Rattle.configuration_text.proofs.ble_places.fill_places.Goals as goal

pub loop-asked-preserved : goal.loop-asked-preserved
loop-asked-preserved c =
    let routed = c.args.routed.now in
    let at = c.loop-asked.asked-index in
    let small : at < length routed = c.loop-asked-test.true in
    fill_more routed at (get_or routed at None) (free_from c.args.count routed c.loop-asked.from) (free_from c.args.count routed c.place_for.new.from) c.loop-asked.filled.items [] _ c.push.new.self.items c.place_for.result
    (slice_get-get_or routed at None small) c.place_for.ensures c.loop-asked.invariant (search rules)

pub returns : goal.returns
returns c =
    let routed = c.args.routed.now in
    fill_end routed c.loop-asked.asked-index (free_from c.args.count routed c.loop-asked.from) c.loop-asked.filled.items [] _ c.loop-asked-test.false c.loop-asked.invariant
    ∙ ap (λ (free : List ℕ). filled_places routed free) (free_all c.args.count routed)
