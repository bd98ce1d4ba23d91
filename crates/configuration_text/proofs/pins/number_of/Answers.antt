use Rattle.configuration_text.proofs.Prelude.{◌≡◌, ◌==◌, ◌<◌, true, false, get_or, length, rules, tests, refl, arith, slice_get-get_or}
use Rattle.configuration_text.proofs.Numbers.{search_end, search_hit, search_miss}
use Rattle.configuration_text.proofs.pins.number_of.Goals as goal

pub loop-number-init : goal.loop-number-init
loop-number-init c = record { has = refl; at = omega arith }

pub returns-then-other-net : goal.returns-then-other-net
returns-then-other-net c =
    let nets = c.args.nets.now in
    let i = c.loop-number.number in
    let small : i < length nets = c.loop-number-test.true in
    let is : (get_or nets i 0 == c.args.net) ≡ true = search (rules, tests) in
    search_hit nets c.args.net i c.loop-number.invariant (get_or nets i 0) (slice_get-get_or nets i 0 small) is

pub loop-number-preserved : goal.loop-number-preserved
loop-number-preserved c =
    let nets = c.args.nets.now in
    let i = c.loop-number.number in
    let small : i < length nets = c.loop-number-test.true in
    let is : (get_or nets i 0 == c.args.net) ≡ false = search (rules, tests) in
    search_miss nets c.args.net i c.loop-number.invariant (get_or nets i 0) (slice_get-get_or nets i 0 small) is

pub returns : goal.returns
returns c = search_end c.args.nets.now c.args.net c.loop-number.number c.loop-number.invariant c.loop-number-test.false
