use Rattle.script_replies.proofs.Prelude.{◌∙◌, ap, arith, line_reply}
use Rattle.script_replies.proofs.ToldLines.{told_again}
use Rattle.script_replies.proofs.listing.Listing.count_again.Goals as goal

pub returns-then-place-len : goal.returns-then-place-len
returns-then-place-len c = told_again c.args.self.now.told.items c.args.place c.index.result.now _ (omega arith) (c.counted_again-again.ensures ∙ ap line_reply c.index.ensures)
