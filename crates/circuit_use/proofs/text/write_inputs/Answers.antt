use Rattle.circuit_use.proofs.Prelude.{ℕ, ◌+◌, ◌<◌, ◌≤◌, arith, range_with_len, inputs_word, all_loop, all_range_end, part_loop, place_at, writes_part}
use Rattle.circuit_use.proofs.text.write_inputs.Goals as goal

pub returns-in_err-write_count : goal.returns-in_err-write_count
returns-in_err-write_count g c =
    let count : ℕ = c.args.lut_size + 1 in
    let inputs : ℕ = c.loop-inputs.inputs in
    let within : inputs < count = (let t = c.loop-inputs-test.true in omega (arith, t)) in
    writes_part c.from_residual.result c.from_residual.ensures.0
    (part_loop (inputs_word c.args.tables.now) (range_with_len 0 count) inputs inputs (place_at count inputs within) c.loop-inputs.invariant c.in_err-write_count.ensures)

pub loop-inputs-preserved : goal.loop-inputs-preserved
loop-inputs-preserved g c =
    let count : ℕ = c.args.lut_size + 1 in
    let inputs : ℕ = c.loop-inputs.inputs in
    let within : inputs < count = (let t = c.loop-inputs-test.true in omega (arith, t)) in
    all_loop (inputs_word c.args.tables.now) (range_with_len 0 count) inputs inputs (place_at count inputs within) c.loop-inputs.invariant c.in_ok-write_count.ensures

pub returns : goal.returns
returns g c =
    let count : ℕ = c.args.lut_size + 1 in
    let past : count ≤ c.loop-inputs.inputs = (let t = c.loop-inputs-test.false in omega (arith, t)) in
    all_range_end (inputs_word c.args.tables.now) count c.loop-inputs.inputs past c.loop-inputs.invariant
