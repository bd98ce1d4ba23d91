use Rattle.layout_check.proofs.Prelude.{Net}
use Rattle.layout_check.proofs.Decided.{connected, implemented}
use Rattle.layout_check.proofs.Never.{never}
use Rattle.layout_check.proofs.check.check_layout.Goals as goal

pub returns-in-Some-clause-implements : goal.returns-in-Some-clause-implements
returns-in-Some-clause-implements c = λ lawful is. never c.args.circuit.now c.args.graph.now c.args.layout.now c.in-Some.wrong lawful c.in-Some.ensures is

pub returns-in-Some-2-clause-implements : goal.returns-in-Some-2-clause-implements
returns-in-Some-2-clause-implements c = λ lawful is. never c.args.circuit.now c.args.graph.now c.args.layout.now c.in-Some-2.wrong lawful (rw c.in-Some-2.is at c.in_ok-wrong.ensures) is

pub returns-in-Some-3-clause-implements : goal.returns-in-Some-3-clause-implements
returns-in-Some-3-clause-implements c = λ lawful is. never c.args.circuit.now c.args.graph.now c.args.layout.now c.in-Some-3.wrong lawful (rw c.in-Some-3.is at c.in_ok-wrong-2.ensures) is

pub returns-in-Some-4-clause-implements : goal.returns-in-Some-4-clause-implements
returns-in-Some-4-clause-implements c = λ lawful is. never c.args.circuit.now c.args.graph.now c.args.layout.now (Net c.in-Some-4.fault) lawful (rw c.in-Some-4.is at c.in_ok-fault.ensures) is

pub returns-in-None-clause-exact : goal.returns-in-None-clause-exact
returns-in-None-clause-exact c =
    let nets = rw c.in-None.is at c.in_ok-fault.ensures in
    connected c.args.circuit.now c.args.graph.now c.args.layout.now (rw c.in_default.is at c.check_lists.ensures) (rw c.in_default-2.is at c.in_ok-wrong.ensures) nets.0 nets.1

pub returns-in-None-clause-implements : goal.returns-in-None-clause-implements
returns-in-None-clause-implements c =
    let nets = rw c.in-None.is at c.in_ok-fault.ensures in
    implemented c.args.circuit.now c.args.graph.now c.args.layout.now
    (connected c.args.circuit.now c.args.graph.now c.args.layout.now (rw c.in_default.is at c.check_lists.ensures) (rw c.in_default-2.is at c.in_ok-wrong.ensures) nets.0 nets.1)
    (rw c.in_default-3.is at c.in_ok-wrong-2.ensures)
