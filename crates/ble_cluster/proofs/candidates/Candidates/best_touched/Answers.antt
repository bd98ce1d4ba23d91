use Rattle.ble_cluster.proofs.Prelude.{arith, sym, ◌∙◌, true, false}
use Rattle.ble_cluster.proofs.ChoosingLemmas.{IsAmongFirst, best_small, best_step, touched_shares}
use Rattle.ble_cluster.proofs.candidates.Candidates.best_touched.Goals as goal
use Rattle.ble_cluster.proofs.candidates.Candidates.best_touched.Goals.{then-prefers, else-prefers}

pub prefers-requires : goal.prefers-requires
prefers-requires c =
    let place = c.loop-number.number-index in
    let numbers = c.sharing_bles-number-items.result.now in
    record {
      small = omega (arith, c.sharing_bles-number-items.ensures.within place 0 (omega arith), c.args.self.now.under_way.gains_count);
      best_small = best_small c.args.self.now.arch.now c.args.self.now.elements.now.elements c.args.self.now.is_taken.now c.args.self.now.growth.now.members.items c.args.self.now.growth.now.gains (IsAmongFirst numbers place) c.loop-number.best c.loop-number.invariant;
    }

pub loop-number-preserved : goal.loop-number-preserved
loop-number-preserved c =
    let place = c.loop-number.number-index in
    let touched = c.sharing_bles-number-items.ensures in
    let shares = touched_shares _ _ place (omega arith) touched in
    elim c.if-prefers.branch [
      | then-prefers w ↦ rw w.best-is (best_step c.args.self.now.arch.now c.args.self.now.elements.now.elements c.args.self.now.is_taken.now c.args.self.now.growth.now.members.items c.args.self.now.growth.now.gains c.sharing_bles-number-items.result.now place c.loop-number.best true (omega arith) (omega (arith, touched.within place 0 (omega arith), c.args.self.now.under_way.gains_count)) shares c.loop-number.invariant (sym w.if-prefers.true ∙ c.prefers.ensures))
      | else-prefers w ↦ rw w.best-is (best_step c.args.self.now.arch.now c.args.self.now.elements.now.elements c.args.self.now.is_taken.now c.args.self.now.growth.now.members.items c.args.self.now.growth.now.gains c.sharing_bles-number-items.result.now place c.loop-number.best false (omega arith) (omega (arith, touched.within place 0 (omega arith), c.args.self.now.under_way.gains_count)) shares c.loop-number.invariant (sym w.if-prefers.false ∙ c.prefers.ensures))
    ]
