use Rattle.circuit_verilog.proofs.Prelude.{ℕ, ◌<◌, ◌≤◌, arith, level_line}
use Rattle.circuit_verilog.proofs.Lists.{number_more, numbers_end}
use Rattle.circuit_verilog.proofs.table.push_levels.Goals as goal

pub loop-place-preserved : goal.loop-place-preserved
loop-place-preserved c =
    let count : ℕ = c.args.width in
    let at : ℕ = c.loop-place.place in
    let within : at < count = (let t = c.loop-place-test.true in omega (arith, t)) in
    number_more (level_line c.args.width) count at c.args.text.now.items c.loop-place.text.items c.push_level.new.text.items within c.loop-place.invariant c.in_ok-push_level.ensures

pub returns : goal.returns
returns c =
    let count : ℕ = c.args.width in
    let past : count ≤ c.loop-place.place = (let t = c.loop-place-test.false in omega (arith, t)) in
    numbers_end (level_line c.args.width) count c.loop-place.place c.args.text.now.items c.loop-place.text.items past c.loop-place.invariant
