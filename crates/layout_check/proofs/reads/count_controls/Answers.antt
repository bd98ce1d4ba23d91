use Rattle.layout_check.proofs.Prelude.{List, ℕ, take, arith, flat_map, option_to_list, Latch}
use Rattle.layout_check.proofs.ReadCounts.{control_here, control_none, controls_more, counts_on, counts_on_none}
use Rattle.layout_check.proofs.reads.count_controls.Goals as goal
use Rattle.layout_check.proofs.reads.count_controls.Goals.{in-Some, in_default}

abbrev controls_of : Latch → List ℕ
controls_of latch = option_to_list latch.control

pub loop-latch-preserved : goal.loop-latch-preserved
loop-latch-preserved c =
    let latches : List Latch = c.args.latches.now in
    let i = c.loop-latch.latch-index in
    let front = flat_map controls_of (take i latches) in
    elim c.match-latch.branch [
      | in-Some w ↦ rw w.counts-is (counts_on _ _ _ front _ _ c.loop-latch.invariant w.count.ensures (controls_more latches i _ _ (omega arith) (control_here _ _ w.in-Some.is)))
      | in_default w ↦ rw w.counts-is (counts_on _ _ _ front _ _ c.loop-latch.invariant (counts_on_none _) (controls_more latches i _ _ (omega arith) (control_none _ w.in_default.not-Some)))
    ]
