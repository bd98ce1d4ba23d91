use Rattle.front_lines.proofs.Prelude.{ℕ, List, subst, sym, prepend_known, line_of, HasLine, to_come, HasReply}
use Rattle.front_lines.proofs.ReplyLemmas.{Following, following_more, reply_ends}
use Rattle.front_lines.proofs.service.take_reply.Goals as goal

pub returns-then-is_whole : goal.returns-then-is_whole
returns-then-is_whole g c =
    let old = to_come c.args.feed.now (g.F.Dialogue.view c.args.replies.now) in
    let now = to_come c.loop.feed (g.F.Dialogue.view c.loop.replies) in
    let next = to_come c.await_line.new.feed (g.F.Dialogue.view c.await_line.new.dialogue) in
    let L : List ℕ → Type 0 = λ line. HasLine now next (line_of c.loop.feed) line in
    let N : List ℕ → Type 0 = λ ahead. HasReply c.args.speaker.now old (prepend_known ahead (g.F.Dialogue.view c.await_line.new.dialogue).remaining) (line_of c.begin_line.new.self) c.note_line.new.reply.items in
    subst N (sym c.begin_line.ensures.ahead)
    (reply_ends c.args.speaker.now old now next (line_of c.loop.feed) c.line.result.now (line_of c.begin_line.new.self) c.loop.reply.items c.note_line.new.reply.items c.in_ok-is_whole.is_whole c.loop.invariant (subst L (sym c.line.ensures) c.in_ok-await_line.ensures) c.begin_line.ensures.line c.in_ok-is_whole.ensures.text c.in_ok-is_whole.ensures.last c.if-is_whole.true)

pub loop-preserved : goal.loop-preserved
loop-preserved g c =
    let old = to_come c.args.feed.now (g.F.Dialogue.view c.args.replies.now) in
    let now = to_come c.loop.feed (g.F.Dialogue.view c.loop.replies) in
    let next = to_come c.await_line.new.feed (g.F.Dialogue.view c.await_line.new.dialogue) in
    let L : List ℕ → Type 0 = λ line. HasLine now next (line_of c.loop.feed) line in
    let N : List ℕ → Type 0 = λ ahead. Following c.args.speaker.now old (prepend_known ahead (g.F.Dialogue.view c.await_line.new.dialogue).remaining) (line_of c.begin_line.new.self) c.note_line.new.reply.items in
    subst N (sym c.begin_line.ensures.ahead)
    (following_more c.args.speaker.now old now next (line_of c.loop.feed) c.line.result.now (line_of c.begin_line.new.self) c.loop.reply.items c.note_line.new.reply.items c.in_ok-is_whole.is_whole c.loop.invariant (subst L (sym c.line.ensures) c.in_ok-await_line.ensures) c.begin_line.ensures.line c.in_ok-is_whole.ensures.text c.in_ok-is_whole.ensures.last c.if-is_whole.false)
