use Rattle.desk_replies.proofs.Prelude.{◌++◌, ◌∙◌, ap, arith}
use Rattle.desk_replies.proofs.SavedFiles.{no_line, one_line}
use Rattle.desk_replies.proofs.tenants.add_line.Goals as goal

pub returns-then-place-told : goal.returns-then-place-told
returns-then-place-told c = no_line c.args.own.now.items c.args.told.now c.args.place c.if-place-told.true

pub returns : goal.returns
returns c = c.in_ok-push.ensures.items ∙ ap (λ line. c.args.own.now.items ++ line) (one_line c.args.told.now c.args.place _ (omega arith))
