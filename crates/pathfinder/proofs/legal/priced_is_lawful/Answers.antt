use Rattle.pathfinder.proofs.Rounds.{prices_lawful}
use Rattle.pathfinder.proofs.legal.priced_is_lawful.Goals as goal

pub returns : goal.returns
returns c = λ w nets iterations trees law are on many. prices_lawful w law c.laws_of_paths.ensures nets are iterations trees on many
