use Rattle.ble_cluster.proofs.Prelude.{◌≡◌, filter, not, refl, sym, subst, take, set, get_or, true, arith, take_more, has, free_in}
use Rattle.ble_cluster.proofs.FreeNumbers.{kept_more}
use Rattle.ble_cluster.proofs.Marking.{free_more, free_same}
use Rattle.ble_cluster.proofs.free_bles.mark_taken.Goals as goal

pub loop-number-init : goal.loop-number-init
loop-number-init c = record {
  free = free_same (free_in c.args.taken.now);
  kept = record { count = refl; kept = λ number is. is };
}

pub loop-number-preserved : goal.loop-number-preserved
loop-number-preserved c =
    let members = c.args.members.now in
    let i = c.loop-number.number-index in
    record {
      free = subst (λ ms. free_in (set c.loop-number.taken (get_or members i 0) true) ≡ filter (λ number. not (has ms number)) (free_in c.args.taken.now))
          (sym (take_more members i 0 (omega arith)))
          (free_more c.args.taken.now c.loop-number.taken (take i members) (get_or members i 0) (rw c.loop-number.auto.taken (c.requires i 0 (omega arith))) c.loop-number.invariant.free);
      kept = kept_more c.args.taken.now c.loop-number.taken (get_or members i 0) c.loop-number.invariant.kept;
    }
