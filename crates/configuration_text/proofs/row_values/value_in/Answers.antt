use Rattle.configuration_text.proofs.Prelude.{◌≡◌, ◌==◌, ◌<◌, false, rules, tests, get_or, length}
use Rattle.configuration_text.proofs.Rest.{read_get}
use Rattle.configuration_text.proofs.Rows.{value_more}
use Rattle.configuration_text.proofs.row_values.value_in.Goals as goal

pub loop-other-preserved : goal.loop-other-preserved
loop-other-preserved c =
    let nets = c.args.nets.now in
    let i = c.loop-other.other-index in
    let small : i < length nets = c.loop-other-test.true in
    let other : (get_or nets i 0 == c.args.net) ≡ false = search (rules, tests) in
    value_more nets i (get_or nets i 0) c.loop-other.rest c.args.net _ (read_get nets i (get_or nets i 0) small (search rules)) other c.loop-other.invariant
