use Rattle.longest_path.proofs.Prelude.{ℕ, ◌≡◌, ◌<◌, Bool, List, Some, length, arith, slice_get, LookupTable, AreLedTo}
use Rattle.longest_path.proofs.Marks.{led_more, led_same}
use Rattle.longest_path.proofs.Raising.{table_within}
use Rattle.longest_path.proofs.lasting.led_to.Goals as goal
use Rattle.longest_path.proofs.lasting.led_to.Goals.{in-Some, in_default}

pub loop-place-preserved : goal.loop-place-preserved
loop-place-preserved c =
    let tables : List LookupTable = c.args.tables.now in
    let marks : List Bool = c.args.marks.now in
    let next : List Bool = c.loop-place.next.items in
    let place : ℕ = c.loop-place.place in
    let table : LookupTable = record { line = c.table-table.result.line; inputs = c.table-table.result.inputs.now; output = c.table-table.result.output } in
    let here : slice_get tables place ≡ Some table = c.table-table.ensures in
    let led : AreLedTo tables place marks next = c.loop-place.invariant in
    let long : length next ≡ length marks = led.long in
    let within : table.output < length next = (let h : table.output < length marks = (table_within tables (length marks) place table c.requires here).output in omega arith) in
    elim c.match-first_marked.branch [
      | in-Some w ↦ rw w.next-is (led_more tables place table marks next here w.in-Some.ensures within led)
      | in_default w ↦ rw w.next-is (led_same tables place table marks next here w.in_default.ensures led)
    ]
