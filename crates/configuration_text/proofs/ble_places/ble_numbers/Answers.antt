use Rattle.configuration_text.proofs.Prelude.{◌≡◌, ◌∙◌, ◌++◌, ◌∷◌, [], Option, ℕ, ap, map, refl, rules, IfOk-weaker, filled_places, free_places, routed_places, enumerate_from, routed_place, LaidBle}
use Rattle.configuration_text.proofs.Rest.{past_from, read_from, written_end, written_more}
use Rattle.configuration_text.proofs.ble_places.ble_numbers.Goals as goal

pub loop-index-preserved : goal.loop-index-preserved
loop-index-preserved c =
    let f : ℕ × LaidBle → Option ℕ = λ ble. routed_place c.args.arch.now c.args.layout.now c.args.laid.now ble.0 ble.1 in
    let bles = c.args.laid.now.bles in
    let at = c.loop-index.index in
    let ble = c.ble-item.result in
    let pushed : c.push.new.self.items ≡ c.loop-index.routed.items ++ c.asked_place.result ∷ [] = search rules in
    written_more (λ n ys. map f (enumerate_from n ys)) bles at ble (f (at, ble) ∷ []) c.loop-index.routed.items [] c.push.new.self.items _
    (read_from c.bles-ble-items.result.now bles c.bles-ble-items.ensures at ble c.loop-index-test.true c.ble-item.is) refl c.loop-index.invariant
    (pushed ∙ ap (λ o. c.loop-index.routed.items ++ o ∷ []) c.asked_place.ensures)

pub returns : goal.returns
returns c =
    let f : ℕ × LaidBle → Option ℕ = λ ble. routed_place c.args.arch.now c.args.layout.now c.args.laid.now ble.0 ble.1 in
    let bles = c.args.laid.now.bles in
    let all : c.loop-index.routed.items ≡ routed_places c.args.arch.now c.args.layout.now c.args.laid.now =
    written_end (λ n ys. map f (enumerate_from n ys)) bles c.loop-index.index c.loop-index.routed.items [] _
    (past_from c.bles-ble-items.result.now bles c.bles-ble-items.ensures c.loop-index.index c.loop-index-test.false) refl c.loop-index.invariant in
    IfOk-weaker c.fill_places.result _ _ (λ _ e. e ∙ ap (λ rs. filled_places rs (free_places c.args.arch.now.cluster_size rs)) (c.as_slice.ensures.value ∙ all)) c.fill_places.ensures
