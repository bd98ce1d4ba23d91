use Rattle.circuit_use.proofs.Prelude.{◌≡◌, ◌∙◌, Bool, List, Some, sym, arith, slice_get, LookupTable, has_inputs}
use Rattle.circuit_use.proofs.CountMore.{count_no, count_yes}
use Rattle.circuit_use.proofs.counting.tables_with.Goals as goal
use Rattle.circuit_use.proofs.counting.tables_with.Goals.{then-has_inputs, else-has_inputs}

pub loop-place-preserved : goal.loop-place-preserved
loop-place-preserved c =
    let tables : List LookupTable = c.args.tables.now in
    let table : LookupTable = record { line = c.table-table.result.line; inputs = c.table-table.result.inputs.now; output = c.table-table.result.output } in
    let here : slice_get tables c.loop-place.place ≡ Some table = c.table-table.ensures in
    let has : LookupTable → Bool = has_inputs c.args.inputs in
    elim c.if-has_inputs.branch [
      | then-has_inputs w ↦ rw w.count-is (record {
        few = omega (arith, c.loop-place.invariant.few);
        count = count_yes has tables c.loop-place.place table c.loop-place.count here (sym c.has_inputs.ensures ∙ w.if-has_inputs.true) c.loop-place.invariant.count;
      })
      | else-has_inputs w ↦ rw w.count-is (record {
        few = omega (arith, c.loop-place.invariant.few);
        count = count_no has tables c.loop-place.place table c.loop-place.count here (sym c.has_inputs.ensures ∙ w.if-has_inputs.false) c.loop-place.invariant.count;
      })
    ]
