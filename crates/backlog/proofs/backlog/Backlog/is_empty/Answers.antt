use Rattle.std.proofs.Common.{◌<◌, ◌∙◌, length, sym, ap, arith}
use Rattle.std.proofs.lemmas.Bool.Decides.{nat_tests}
use Rattle.backlog.specs.Waiting.{is_none_left}
use Rattle.backlog.proofs.Waits.{some_left}
use Rattle.backlog.proofs.backlog.Backlog.is_empty.Goals as goal

pub returns-else-is_empty : goal.returns-else-is_empty
returns-else-is_empty g c =
    let some : 0 < length c.self.inside.items.items = let e = c.is_empty.ensures in let f = c.if-is_empty.false in grind (arith, nat_tests, e, f) in
    c.if-is_empty.false ∙ (sym (some_left c.self.inside.items.items c.self.inside.lost some) ∙ ap is_none_left c.self.view_is)
