use Rattle.unread_tables.proofs.Prelude.{◌≡◌, ◌∙◌, Bool, List, Some, false, get_or, not, sym, arith, slice_get, LookupTable}
use Rattle.unread_tables.proofs.Marking.{count_no, count_yes}
use Rattle.unread_tables.proofs.counting.count_unmarked.Goals as goal
use Rattle.unread_tables.proofs.counting.count_unmarked.Goals.{then-is_unmarked, else-is_unmarked}

pub loop-place-preserved : goal.loop-place-preserved
loop-place-preserved c =
    let tables : List LookupTable = c.args.tables.now in
    let table : LookupTable = record { line = c.table-table.result.line; inputs = c.table-table.result.inputs.now; output = c.table-table.result.output } in
    let here : slice_get tables c.loop-place.place ≡ Some table = c.table-table.ensures in
    let unmarked : LookupTable → Bool = λ t. not (get_or c.args.marks.now t.output false) in
    elim c.if-is_unmarked.branch [
      | then-is_unmarked w ↦ rw w.count-is (record {
        few = omega (arith, c.loop-place.invariant.few);
        count = count_yes unmarked tables c.loop-place.place table c.loop-place.count here (sym c.is_unmarked.ensures ∙ w.if-is_unmarked.true) c.loop-place.invariant.count;
      })
      | else-is_unmarked w ↦ rw w.count-is (record {
        few = omega (arith, c.loop-place.invariant.few);
        count = count_no unmarked tables c.loop-place.place table c.loop-place.count here (sym c.is_unmarked.ensures ∙ w.if-is_unmarked.false) c.loop-place.invariant.count;
      })
    ]
