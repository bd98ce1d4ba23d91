use Rattle.std.proofs.Common.{List, Option, subst}
use Rattle.backlog.specs.Waiting.{IsBounded}
use Rattle.backlog.proofs.Waits.{bounded}
use Rattle.backlog.proofs.backlog.Backlog.take_lost.Goals as goal

pub returns-then-not-is_empty-clause-bounded : goal.returns-then-not-is_empty-clause-bounded
returns-then-not-is_empty-clause-bounded g c =
    let P : List (Option g.row.T.Denot) → Type 0 = λ all. IsBounded g.T.Weighs.weight all in
    subst P c.self.view_is (bounded g.T.Weighs.weight c.self.inside.items.items c.self.inside.weight c.self.inside.lost c.self.invariant)
