use Rattle.ble_cluster.proofs.Prelude.{◌<◌, ℕ, Bool, ◌∷◌, [], ◌∙◌, not, length, sym, arith, element_at, fits_in_cluster, IsElement}
use Rattle.ble_cluster.proofs.Choosing.{element_lawful}
use Rattle.ble_cluster.proofs.LeastUnfit.{fit_narrow, found_here, found_later, unfit_wide}
use Rattle.ble_cluster.proofs.fit.first_unfit.Goals as goal

pub returns-then-outside_inputs-pins : goal.returns-then-outside_inputs-pins
returns-then-outside_inputs-pins c =
    let bles = c.args.bles.now in
    let n = c.loop-number.number in
    let within : n < length bles = omega arith in
    let test : ℕ → Bool = λ number. not (fits_in_cluster c.args.arch.now (element_at bles number ∷ [])) in
    let is = element_lawful (IsElement c.args.count) bles n _ within c.ble.ensures c.requires.bles.elements in
    sym (found_here test n (length bles) within (unfit_wide c.args.arch.now c.args.count bles n _ c.outside_inputs.result c.input_count-pins.result c.requires.arch is c.ble.ensures c.outside_inputs.ensures c.input_count-pins.ensures c.if-outside_inputs-pins.true)) ∙ c.loop-number.invariant

pub loop-number-preserved : goal.loop-number-preserved
loop-number-preserved c =
    let bles = c.args.bles.now in
    let n = c.loop-number.number in
    let within : n < length bles = omega arith in
    let test : ℕ → Bool = λ number. not (fits_in_cluster c.args.arch.now (element_at bles number ∷ [])) in
    let is = element_lawful (IsElement c.args.count) bles n _ within c.ble.ensures c.requires.bles.elements in
    sym (found_later test n (length bles) within (fit_narrow c.args.arch.now c.args.count bles n _ c.outside_inputs.result c.input_count-pins.result c.requires.arch is c.ble.ensures c.outside_inputs.ensures c.input_count-pins.ensures c.if-outside_inputs-pins.false)) ∙ c.loop-number.invariant
