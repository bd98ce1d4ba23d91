use Rattle.layout_law.proofs.Prelude.{text_lawful}
use Rattle.layout_law.proofs.law.texts_are_lawful.Goals as goal

pub returns : goal.returns
returns c = λ lut_size text circuit. text_lawful text lut_size circuit
