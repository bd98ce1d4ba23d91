use Rattle.ble_cluster.proofs.Prelude.{refl, arith, subst, sym, set, true, common_steps, AreDriven}
use Rattle.ble_cluster.proofs.Counting.{driven_more, take_place}
use Rattle.ble_cluster.proofs.Within.{table_at_place}
use Rattle.ble_cluster.proofs.readers.mark_driven.Goals as goal

pub loop-place-preserved : goal.loop-place-preserved
loop-place-preserved c = record {
  nets = grind (arith, common_steps);
  driven =
      subst (λ tables. AreDriven tables (set c.loop-place.is_driven.items c.table.result.output true))
      (sym (take_place c.args.tables.now c.loop-place.place _ (omega arith) c.table.ensures))
      (driven_more _ c.loop-place.is_driven.items _ c.table.result.output refl (rw c.loop-place.invariant.nets ((table_at_place c.args.tables.now c.loop-place.place _ c.args.nets (omega arith) c.table.ensures c.requires).output)) c.loop-place.invariant.driven);
}
