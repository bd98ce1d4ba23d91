use Rattle.implements.proofs.Coming.{connects}
use Rattle.implements.proofs.laws.laws_of_layouts.Goals as goal

pub returns : goal.returns
returns c = connects
