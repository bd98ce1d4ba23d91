use Rattle.layout_check.proofs.Receiving.{received_told}
use Rattle.layout_check.proofs.receives.check_reads.Goals as goal

pub returns-in-None : goal.returns-in-None
returns-in-None c =
    received_told c.args.element.now c.args.nets.now c.inputs-inputs.result.now c.inputs-inputs.ensures (rw c.in_default.is at c.first_absent.ensures) (rw c.in_default-first_absent.is at c.first_absent-2.ensures) c.in-None.ensures
