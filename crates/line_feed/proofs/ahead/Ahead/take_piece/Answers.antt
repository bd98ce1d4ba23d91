use Rattle.std.proofs.Common.{sym, ◌∙◌}
use Rattle.line_feed.proofs.FeedLemmas.{takes_all, takes_ended}
use Rattle.line_feed.proofs.ahead.Ahead.take_piece.Goals as goal

pub returns-in-Some : goal.returns-in-Some
returns-in-Some c =
    takes_ended c.self.inside.buffer.items c.deref.result.now c.args.self.now c.self.inside.at c.self.inside.end c.in-Some.place _ _ (sym c.self.view_is) c.deref.ensures.value (sym c.line_end.ensures ∙ c.in-Some.is) c.append.ensures

pub returns-in-None : goal.returns-in-None
returns-in-None c =
    takes_all c.self.inside.buffer.items c.deref.result.now c.args.self.now c.self.inside.at c.self.inside.end _ _ (sym c.self.view_is) c.deref.ensures.value (sym c.line_end.ensures ∙ c.in-None.is) c.append-in-None.ensures
