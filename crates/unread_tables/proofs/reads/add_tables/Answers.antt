use Rattle.unread_tables.proofs.Prelude.{LookupTable}
use Rattle.unread_tables.proofs.Marking.{add_more}
use Rattle.unread_tables.proofs.reads.add_tables.Goals as goal

pub loop-place-preserved : goal.loop-place-preserved
loop-place-preserved c =
    let table : LookupTable = record { line = c.table-table.result.line; inputs = c.table-table.result.inputs.now; output = c.table-table.result.output } in
    add_more c.args.nets.now.items c.loop-place.nets.items c.extend_from_slice.new.self.items c.args.tables.now c.loop-place.place table c.table-table.ensures c.loop-place.invariant c.in_ok-extend_from_slice.ensures.items
