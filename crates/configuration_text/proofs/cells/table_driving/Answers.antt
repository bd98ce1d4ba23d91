use Rattle.configuration_text.proofs.Prelude.{◌≡◌, ◌==◌, Bool, true, false, rules, tests, arith, LookupTable, table_read}
use Rattle.configuration_text.proofs.Found.{find_end, find_hit, find_miss}
use Rattle.configuration_text.proofs.cells.table_driving.Goals as goal

pub returns-then-table-net : goal.returns-then-table-net
returns-then-table-net c =
    let p : LookupTable → Bool = λ table. table.output == c.args.net in
    let is : p (table_read c.table-table.result) ≡ true = search (rules, tests) in
    find_hit p c.args.circuit.now.tables c.loop-place.place _ c.loop-place.invariant (table_read c.table-table.result) c.table-table.ensures is

pub loop-place-preserved : goal.loop-place-preserved
loop-place-preserved c =
    let p : LookupTable → Bool = λ table. table.output == c.args.net in
    let is : p (table_read c.table-table.result) ≡ false = search (rules, tests) in
    find_miss p c.args.circuit.now.tables c.loop-place.place _ c.loop-place.invariant (table_read c.table-table.result) c.table-table.ensures is

pub returns : goal.returns
returns c = find_end (λ table. table.output == c.args.net) c.args.circuit.now.tables c.loop-place.place _ c.loop-place.invariant (omega (arith, c.len-place-end.ensures, c.loop-place-test.false))
