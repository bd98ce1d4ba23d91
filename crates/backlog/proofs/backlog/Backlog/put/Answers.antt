use Rattle.std.proofs.Common.{◌+◌, ◌<◌, ◌≤◌, length, arith}
use Rattle.backlog.proofs.Waits.{bounded, one_within, same_within}
use Rattle.backlog.proofs.backlog.Backlog.put.Goals as goal

-- src/backlog.rt:79:13
pub returns-then-self-gt0-clause-bounded : goal.returns-then-self-gt0-clause-bounded
returns-then-self-gt0-clause-bounded g c = bounded g.T.Weighs.weight c.self.inside.items.items c.self.inside.weight c.saturating_add-self-inside.result c.self.invariant

-- src/backlog.rt:71:5
pub returns-in-Ok-clause-bounded : goal.returns-in-Ok-clause-bounded
returns-in-Ok-clause-bounded g c =
    let few : length c.self.inside.items.items < 4096 = let e = c.len.ensures in let f = c.if-len-ge-MAX_ITEMS.false in omega (arith, e, f) in
    let light : c.weight-weight.result + c.self.inside.weight ≤ 2097152 = let i = c.self.invariant.light in let w = c.if-weight-self.false in omega (arith, i, w) in
    let w = one_within g.T.Weighs.weight c.self.inside.items.items c.push_back.new.self.items c.args.item c.weight-weight.result c.self.inside.weight c.self.invariant c.in-Ok.ensures.items c.weight-weight.ensures few light in
    bounded g.T.Weighs.weight c.push_back.new.self.items (c.self.inside.weight + c.weight-weight.result) c.self.inside.lost w

-- src/backlog.rt:71:5
pub returns-in-Err-clause-bounded : goal.returns-in-Err-clause-bounded
returns-in-Err-clause-bounded g c =
    let w = same_within g.T.Weighs.weight c.self.inside.items.items c.push_back.new.self.items c.self.inside.weight c.self.invariant c.in-Err.ensures.items in
    bounded g.T.Weighs.weight c.push_back.new.self.items c.self.inside.weight c.saturating_add-self-inside-in-Err.result w
