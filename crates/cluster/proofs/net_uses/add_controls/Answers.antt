use Rattle.cluster.proofs.Prelude.{◌∙◌, ◌<◌, ap, arith, get_or, length, sym, List, None, Latch}
use Rattle.cluster.proofs.NetLaws.{controls_more}
use Rattle.cluster.proofs.net_uses.add_controls.Goals as goal
use Rattle.cluster.proofs.net_uses.add_controls.Goals.{in-Some+in_ok-insert, in_default}

pub loop-latch-preserved : goal.loop-latch-preserved
loop-latch-preserved c =
    let none : Latch = record { line = 0; input = 0; output = 0; control = None } in
    let latches = ap (λ (latches : List Latch). length latches) c.as_slice-latch-items.ensures in
    let control = ap (λ (latches : List Latch). (get_or latches c.loop-latch.latch-index none).control) (sym c.as_slice-latch-items.ensures) in
    let within : c.loop-latch.latch-index < length c.args.circuit.now.latches = omega arith in
    elim c.match-latch.branch [
      | in-Some+in_ok-insert w ↦ controls_more c.args.circuit.now.latches c.loop-latch.latch-index _ none _ c.loop-latch.globals c.match-latch.globals within (control ∙ w.in-Some.is) c.loop-latch.invariant (w.globals-is ∙ w.in_ok-insert.ensures.inserted)
      | in_default w ↦ controls_more c.args.circuit.now.latches c.loop-latch.latch-index _ none _ c.loop-latch.globals c.match-latch.globals within (control ∙ w.in_default.is) c.loop-latch.invariant w.globals-is
    ]
