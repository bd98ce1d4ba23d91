use Rattle.desk_circuits.proofs.Prelude.{ℕ, ◌<◌, ◌≤◌, List, length, min, arith, range_with_len, loop_table, table_text, MAX_SHOWN, all_loop, all_range_end, part_loop, place_at, writes_part}
use Rattle.desk_circuits.proofs.loop_line.write_tables.Goals as goal

pub returns-in_err-write_table : goal.returns-in_err-write_table
returns-in_err-write_table g c =
    let text : ℕ → List ℕ = λ place. table_text c.args.circuit.now (loop_table c.args.numbers.now place) in
    let count : ℕ = min (length c.args.numbers.now) MAX_SHOWN in
    let place : ℕ = c.loop-place.place in
    let within : place < count = (let t = c.loop-place-test.true in omega (arith, t)) in
    writes_part c.from_residual.result c.from_residual.ensures.0
    (part_loop text (range_with_len 0 count) place place (place_at count place within) c.loop-place.invariant c.in_err-write_table.ensures)

pub loop-place-preserved : goal.loop-place-preserved
loop-place-preserved g c =
    let text : ℕ → List ℕ = λ place. table_text c.args.circuit.now (loop_table c.args.numbers.now place) in
    let count : ℕ = min (length c.args.numbers.now) MAX_SHOWN in
    let place : ℕ = c.loop-place.place in
    let within : place < count = (let t = c.loop-place-test.true in omega (arith, t)) in
    all_loop text (range_with_len 0 count) place place (place_at count place within) c.loop-place.invariant c.in_ok-write_table.ensures

pub returns : goal.returns
returns g c =
    let text : ℕ → List ℕ = λ place. table_text c.args.circuit.now (loop_table c.args.numbers.now place) in
    let count : ℕ = min (length c.args.numbers.now) MAX_SHOWN in
    let past : count ≤ c.loop-place.place = (let t = c.loop-place-test.false in omega (arith, t)) in
    all_range_end text count c.loop-place.place past c.loop-place.invariant
