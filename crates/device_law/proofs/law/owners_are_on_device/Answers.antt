use Rattle.device_law.proofs.OwnThere.{Laws}
use Rattle.device_law.proofs.OwnerFacts.{are_on_device}
use Rattle.device_law.proofs.law.owners_are_on_device.Goals as goal

pub returns : goal.returns
returns c = λ device known calls state run.
    let laws : Laws = record { implemented = c.routed_implements.ensures.results; passes = c.laws_of_passes.ensures.few } in
    are_on_device laws device calls state known run
