use Rattle.strip_moves.proofs.Settling.{known, settled_after, settled_same}
use Rattle.strip_moves.proofs.joining.move_strip_at.Goals as goal

pub move_left-requires : goal.move_left-requires
move_left-requires c =
    let found = c.in_ok-strip.ensures in
    known c.args.strips.now c.args.plan.now c.args.offset c.requires.apart c.requires.settled found.0 c.in_ok-strip.strip found.1 found.2 found.3

pub returns-in_err-to-clause-settled : goal.returns-in_err-to-clause-settled
returns-in_err-to-clause-settled c =
    let found = c.in_ok-strip.ensures in
    let stays = c.in_err-to.ensures in
    settled_same c.args.strips.now c.args.plan.now c.args.offset c.requires.apart c.requires.settled found.0 c.in_ok-strip.strip found.1 found.2 found.3 c.move_left.new.plan stays.0 stays.1

pub returns-clause-settled : goal.returns-clause-settled
returns-clause-settled c =
    let found = c.in_ok-strip.ensures in
    let moved = c.in_ok-to.ensures in
    settled_after c.args.strips.now c.args.plan.now c.args.offset c.requires.apart c.requires.settled found.0 c.in_ok-strip.strip found.1 found.2 found.3 c.move_left.new.plan c.in_ok-to.to moved.0 moved.1 moved.2
