use Rattle.std.proofs.Common.{◌-◌, sym}
use Rattle.backlog.proofs.Waits.{bounded, bounded_after, same_within}
use Rattle.backlog.proofs.backlog.Backlog.take.Goals as goal

-- src/backlog.rt:98:13
pub returns-in-Some-clause-bounded : goal.returns-in-Some-clause-bounded
returns-in-Some-clause-bounded g c = bounded_after g.T.Weighs.weight c.self.inside.items.items c.pop_front.new.self.items c.in-Some.item c.self.inside.weight c.self.inside.lost c.self.invariant c.in-Some.ensures.items

-- src/backlog.rt:102:13
pub returns-then-self-gt0-clause-bounded : goal.returns-then-self-gt0-clause-bounded
returns-then-self-gt0-clause-bounded g c =
    let w = same_within g.T.Weighs.weight c.self.inside.items.items c.pop_front.new.self.items c.self.inside.weight c.self.invariant (sym c.in_default.ensures.items) in
    bounded g.T.Weighs.weight c.pop_front.new.self.items c.self.inside.weight (c.self.inside.lost - 1) w
