use Rattle.layout_check.proofs.Owning.{owned_table_told, unlawful_table_told}
use Rattle.layout_check.proofs.owners.own_tables.Goals as goal

pub returns-then-not-is_free : goal.returns-then-not-is_free
returns-then-not-is_free c =
    unlawful_table_told c.args.circuit.now c.loop-number.number c.loop-number.owners.items c.as_slice.result.now _ c.as_slice.ensures.value c.table-net.ensures c.loop-number.invariant c.if-not-is_free.ensures

pub loop-number-preserved : goal.loop-number-preserved
loop-number-preserved c =
    owned_table_told c.args.circuit.now c.loop-number.number c.loop-number.owners.items c.as_slice.result.now _ c.as_slice.ensures.value c.table-net.ensures c.if-not-is_free.ensures c.loop-number.invariant
