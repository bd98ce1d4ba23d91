use Rattle.configuration_text.proofs.Prelude.{◌==◌, ◌&&◌, ◌∙◌, Bool, ℕ, sym, is_some, LaidBle}
use Rattle.configuration_text.proofs.Rest.{read_get}
use Rattle.configuration_text.proofs.Found.{index_end, index_hit, index_miss}
use Rattle.configuration_text.proofs.global_lines.driving_index.Goals as goal

pub returns-then-leaves_as : goal.returns-then-leaves_as
returns-then-leaves_as c =
    let p : ℕ × LaidBle → Bool = λ ble. (ble.1.name == c.args.net) && is_some ble.1.output in
    let ble = c.index-bles-index.result in
    index_hit p c.args.bles.now c.loop-index.index _ c.loop-index.invariant ble (read_get c.args.bles.now c.loop-index.index ble c.loop-index-test.true c.index-bles-index.is) (sym c.leaves_as.ensures ∙ c.if-leaves_as.true)

pub loop-index-preserved : goal.loop-index-preserved
loop-index-preserved c =
    let p : ℕ × LaidBle → Bool = λ ble. (ble.1.name == c.args.net) && is_some ble.1.output in
    let ble = c.index-bles-index.result in
    index_miss p c.args.bles.now c.loop-index.index _ c.loop-index.invariant ble (read_get c.args.bles.now c.loop-index.index ble c.loop-index-test.true c.index-bles-index.is) (sym c.leaves_as.ensures ∙ c.if-leaves_as.false)

pub returns : goal.returns
returns c = index_end (λ (ble : ℕ × LaidBle). (ble.1.name == c.args.net) && is_some ble.1.output) c.args.bles.now c.loop-index.index _ c.loop-index.invariant c.loop-index-test.false
