use Rattle.cluster.proofs.Prelude.{◌∙◌, ◌<◌, ap, arith, length, ℕ, Vec, Global}
use Rattle.cluster.proofs.PinRanks.{ranked_none, ranked_input, ranked_output, ranked_clock, ranked_all}
use Rattle.cluster.proofs.pin_ranks.add_ranks.Goals as goal
use Rattle.cluster.proofs.pin_ranks.add_ranks.Goals.{in-Input+in_ok-push-in-Input, in-Output+in_ok-push-in-Output, in-Clock+in_ok-push-in-Clock}

pub loop-pin-init : goal.loop-pin-init
loop-pin-init c = ranked_none _ _ c.requires

pub loop-pin-preserved : goal.loop-pin-preserved
loop-pin-preserved c =
    let within : c.loop-pin.pin-index < length c.args.pins.now = omega arith in
    elim c.match-pin.branch [
      | in-Input+in_ok-push-in-Input w ↦ ranked_input c.args.pins.now c.loop-pin.pin-index _ _ _ _ _ _ _ _ _ within w.in-Input.is c.loop-pin.invariant (ap (λ (ranks : Vec ℕ Global). ranks.items) w.ranks-is ∙ w.in_ok-push-in-Input.ensures.items) w.inputs-is w.outputs-is w.clocks-is
      | in-Output+in_ok-push-in-Output w ↦ ranked_output c.args.pins.now c.loop-pin.pin-index _ _ _ _ _ _ _ _ _ within w.in-Output.is c.loop-pin.invariant (ap (λ (ranks : Vec ℕ Global). ranks.items) w.ranks-is ∙ w.in_ok-push-in-Output.ensures.items) w.inputs-is w.outputs-is w.clocks-is
      | in-Clock+in_ok-push-in-Clock w ↦ ranked_clock c.args.pins.now c.loop-pin.pin-index _ _ _ _ _ _ _ _ _ within w.in-Clock.is c.loop-pin.invariant (ap (λ (ranks : Vec ℕ Global). ranks.items) w.ranks-is ∙ w.in_ok-push-in-Clock.ensures.items) w.inputs-is w.outputs-is w.clocks-is
    ]

pub returns : goal.returns
returns c = ranked_all c.args.pins.now c.loop-pin.pin-index _ _ _ _ (omega arith) c.loop-pin.invariant
