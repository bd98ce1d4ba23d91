use Rattle.configuration_text.proofs.Prelude.{Bool, ap, not, rules, tests, YieldsList-from_slice, any_from_yields_List, is_place}
use Rattle.configuration_text.proofs.ble_places.is_free.Goals as goal

pub returns : goal.returns
returns c =
    ap (λ (b : Bool). not b)
    (any_from_yields_List (is_place c.args.place) _ _ c.any.result c.any.ensures.ran (YieldsList-from_slice c.args.routed.now c.iter.ensures.rest) (λ x b q k. search (rules, tests)))
