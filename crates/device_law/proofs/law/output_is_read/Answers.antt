use Rattle.device_law.proofs.OwnThere.{Laws}
use Rattle.device_law.proofs.WholeOutput.{run_read}
use Rattle.device_law.proofs.law.output_is_read.Goals as goal

pub returns : goal.returns
returns c =
    let laws : Laws = record { implemented = c.routed_implements.ensures.results; passes = c.laws_of_passes.ensures.few } in
    run_read laws
