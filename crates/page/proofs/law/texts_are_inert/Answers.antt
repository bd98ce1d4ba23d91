use Rattle.page.proofs.Inert.{all_inert}
use Rattle.page.proofs.law.texts_are_inert.Goals as goal

pub returns : goal.returns
returns c = all_inert
