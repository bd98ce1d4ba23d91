use Rattle.strip_place.proofs.KeptSites.{none_kept}
use Rattle.strip_place.proofs.laws.laws_of_kept.Goals as goal

pub returns : goal.returns
returns c = record { none = none_kept }
