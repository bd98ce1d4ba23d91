use Rattle.strip_moves.proofs.Prelude.{arith}
use Rattle.strip_moves.proofs.AcceptedMoves.{accepted_push}
use Rattle.strip_moves.proofs.Settling.{all_leftmost}
use Rattle.strip_moves.proofs.joining.moves_on.Goals as goal
use Rattle.strip_moves.proofs.joining.moves_on.Goals.{in-Some+in_ok-push, in_default}

pub loop-offset-preserved : goal.loop-offset-preserved
loop-offset-preserved c = elim c.match-move_strip_at.branch [
  | in-Some+in_ok-push w ↦ (
    rw (w.moves-is, w.in_ok-push.ensures.items)
        (accepted_push c.args.plan.now c.loop-offset.plan c.move_strip_at.new.plan c.loop-offset.moves.items w.in-Some.one c.loop-offset.invariant.0 w.in-Some.ensures.moved),
    c.move_strip_at.ensures.settled,
  )
  | in_default w ↦ (rw (w.moves-is, w.in_default.ensures.moved) c.loop-offset.invariant.0, c.move_strip_at.ensures.settled)
]

pub returns-clause-leftmost : goal.returns-clause-leftmost
returns-clause-leftmost c =
    all_leftmost c.args.strips.now c.loop-offset.plan c.loop-offset.offset
    (λ i d lt.
    (let ends = c.requires.laid_out.parted.inside i d lt in
    let wide = c.requires.laid_out.wide i d lt in
    omega (arith, ends, wide)))
    c.loop-offset.invariant.1
