use Rattle.configuration_text.proofs.Prelude.{◌≡◌, ◌∙◌, true, false, not, sym, rules, arith, list_any, is_place}
use Rattle.configuration_text.proofs.Places.{free_end, free_hit, free_miss}
use Rattle.configuration_text.proofs.ble_places.first_free.Goals as goal

pub returns-then-is_free : goal.returns-then-is_free
returns-then-is_free c =
    let is : not (list_any (is_place c.loop-place.place) c.args.routed.now) ≡ true = search rules in
    record {
      found = λ _. sym c.loop-place.invariant ∙ free_hit c.args.count c.args.routed.now c.loop-place.place c.loop-place-test.true is;
      none = λ h. absurd (omega (arith, h, c.loop-place-test.true));
    }

pub loop-place-preserved : goal.loop-place-preserved
loop-place-preserved c =
    let is : not (list_any (is_place c.loop-place.place) c.args.routed.now) ≡ false = search rules in
    sym (free_miss c.args.count c.args.routed.now c.loop-place.place c.loop-place-test.true is) ∙ c.loop-place.invariant

pub returns : goal.returns
returns c = record {
  found = λ h. absurd (omega (arith, h));
  none = λ _. sym c.loop-place.invariant ∙ free_end c.args.count c.args.routed.now c.loop-place.place c.loop-place-test.false;
}
