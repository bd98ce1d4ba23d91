use Rattle.script_replies.proofs.Prelude.{List, map, arith, LineReply, line_reply}
use Rattle.script_replies.proofs.ToldLines.{told_all, told_next}
use Rattle.script_replies.proofs.listing.Listing.add_all.Goals as goal

pub loop-place-preserved : goal.loop-place-preserved
loop-place-preserved c =
    let before : List LineReply = map line_reply c.args.self.now.told.items in
    told_next c.args.lines.now c.lines-answers.result.now c.loop-place.place _ _ before (map line_reply c.loop-place.self.told.items) _ (omega arith) (omega arith) c.in_ok-add.ensures c.loop-place.invariant

pub returns : goal.returns
returns c =
    let before : List LineReply = map line_reply c.args.self.now.told.items in
    told_all c.args.lines.now c.lines-answers.result.now c.loop-place.place before (map line_reply c.loop-place.self.told.items) c.args.replies.now (omega arith) c.lines-answers.ensures c.loop-place.invariant
