use Rattle.ble_cluster.proofs.Prelude.{sym, arith}
use Rattle.ble_cluster.proofs.ChoosingLemmas.{next_best, next_first, next_none}
use Rattle.ble_cluster.proofs.Untouched.{full_refuses}
use Rattle.ble_cluster.proofs.candidates.Candidates.next_member.Goals as goal

pub returns-in-Some-clause-next : goal.returns-in-Some-clause-next
returns-in-Some-clause-next c =
    next_best c.args.self.now.arch.now c.args.self.now.elements.now.elements c.args.self.now.is_taken.now c.args.self.now.growth.now.members.items c.args.self.now.marks c.args.self.now.growth.now.gains c.args.self.now.under_way.gains c.in-Some.number c.in-Some.ensures

pub returns-in-None-clause-next : goal.returns-in-None-clause-next
returns-in-None-clause-next c =
    next_first c.args.self.now.arch.now c.args.self.now.elements.now.elements c.args.self.now.is_taken.now c.args.self.now.growth.now.members.items c.args.self.now.marks c.args.self.now.growth.now.gains c.args.self.now.under_way.gains c.first_fitting.result c.in-None.ensures c.first_fitting.ensures.first

pub returns-then-len-self-clause-next : goal.returns-then-len-self-clause-next
returns-then-len-self-clause-next c =
    sym (next_none c.args.self.now.arch.now c.args.self.now.elements.now.elements c.args.self.now.is_taken.now c.args.self.now.growth.now.members.items c.args.self.now.marks
    (λ other small. full_refuses c.args.self.now.arch.now c.args.self.now.elements.now.elements c.args.self.now.is_taken.now c.args.self.now.growth.now.members.items other (omega arith)))
