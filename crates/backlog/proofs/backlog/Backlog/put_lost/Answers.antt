use Rattle.backlog.proofs.Waits.{bounded}
use Rattle.backlog.proofs.backlog.Backlog.put_lost.Goals as goal

-- src/backlog.rt:113:5
pub returns-clause-bounded : goal.returns-clause-bounded
returns-clause-bounded g c = bounded g.T.Weighs.weight c.self.inside.items.items c.self.inside.weight c.saturating_add-self-inside.result c.self.invariant
