use Rattle.ble_cluster.proofs.Prelude.{sym, ap, ◌∙◌, take, arith, subst, flat_map, take_all, LookupTable, CountsOn}
use Rattle.ble_cluster.proofs.Counting.{counts_on, flat_map_push, take_place}
use Rattle.ble_cluster.proofs.readers.count_tables.Goals as goal

pub loop-place-preserved : goal.loop-place-preserved
loop-place-preserved c =
    let front = take c.loop-place.place c.args.tables.now in
    counts_on _ _ _ (flat_map (λ (table : LookupTable). table.inputs) front) _ _ c.loop-place.invariant c.count_all.ensures
    (sym (ap (flat_map (λ (table : LookupTable). table.inputs)) (take_place c.args.tables.now c.loop-place.place _ (omega arith) c.table.ensures) ∙ flat_map_push (λ (table : LookupTable). table.inputs) front _))

pub returns : goal.returns
returns c =
    subst (λ tables. CountsOn c.args.counts.now (flat_map (λ (table : LookupTable). table.inputs) tables) c.loop-place.counts)
    (take_all c.loop-place.place c.args.tables.now (omega arith)) c.loop-place.invariant
