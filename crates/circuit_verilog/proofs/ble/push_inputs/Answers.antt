use Rattle.circuit_verilog.proofs.Prelude.{ℕ, ◌<◌, ◌≤◌, arith, slice_get, input_text}
use Rattle.circuit_verilog.proofs.Lists.{number_more, numbers_end}
use Rattle.circuit_verilog.proofs.ble.push_inputs.Goals as goal

pub loop-place-preserved : goal.loop-place-preserved
loop-place-preserved c =
    let count : ℕ = c.args.width in
    let at : ℕ = c.loop-place.place in
    let within : at < count = (let t = c.loop-place-test.true in omega (arith, t)) in
    number_more (λ place. input_text (slice_get c.args.nets.now place)) count at c.args.text.now.items c.loop-place.text.items c.push_input_at.new.text.items within c.loop-place.invariant c.in_ok-push_input_at.ensures

pub returns : goal.returns
returns c =
    let count : ℕ = c.args.width in
    let past : count ≤ c.loop-place.place = (let t = c.loop-place-test.false in omega (arith, t)) in
    numbers_end (λ place. input_text (slice_get c.args.nets.now place)) count c.loop-place.place c.args.text.now.items c.loop-place.text.items past c.loop-place.invariant
