use Rattle.layout_check.proofs.Prelude.{sym, ap, ◌∙◌, take, arith, flat_map, LookupTable}
use Rattle.layout_check.proofs.ReadCounts.{counts_on, flat_map_push, take_place}
use Rattle.layout_check.proofs.reads.count_tables.Goals as goal

pub loop-number-preserved : goal.loop-number-preserved
loop-number-preserved c =
    let front = take c.loop-number.number c.args.tables.now in
    counts_on _ _ _ (flat_map (λ (table : LookupTable). table.inputs) front) _ _ c.loop-number.invariant c.count_all.ensures
    (sym (ap (flat_map (λ (table : LookupTable). table.inputs)) (take_place c.args.tables.now c.loop-number.number _ (omega arith) c.table.ensures) ∙ flat_map_push (λ (table : LookupTable). table.inputs) front _))
