use Rattle.strip_place.proofs.Following.{renewed_first}
use Rattle.strip_place.proofs.Swaps.{both_renewed}
use Rattle.strip_place.proofs.boxes.renew_both.Goals as goal

pub renew-requires : goal.renew-requires
renew-requires c = c.requires.first

pub renew-requires-2 : goal.renew-requires-2
renew-requires-2 c = renewed_first c.args.points.now c.args.nets.now c.args.first.now c.args.second.now c.args.boxes.now c.renew.new.boxes c.renew.result c.args.made.to c.args.made.from c.renew.ensures c.requires.second

pub returns : goal.returns
returns c =
    both_renewed c.args.points.now c.args.nets.now c.args.first.now c.args.second.now c.args.boxes.now c.renew.new.boxes c.renew-2.new.boxes c.renew.result c.renew-2.result c.renew.ensures c.renew-2.ensures
