use Rattle.cluster.proofs.Prelude.{◌∙◌, sym, Some, None, elements_lawful}
use Rattle.cluster.proofs.Members.{few_bles}
use Rattle.cluster.proofs.Going.{unfit_is}
use Rattle.cluster.proofs.packing.check.Goals as goal

pub first_unfit-requires-clause-bles : goal.first_unfit-requires-clause-bles
first_unfit-requires-clause-bles c = rw (c.in_ok-bles.ensures, c.len.ensures) (record { few = few_bles c.args.circuit.now c.requires.circuit; elements = elements_lawful c.args.circuit.now c.requires.circuit })

pub returns-in-None : goal.returns-in-None
returns-in-None c = unfit_is c.args.circuit.now c.args.arch.now c.in_ok-bles.bles None c.in_ok-bles.ensures (sym c.in-None.is ∙ c.first_unfit.ensures)

pub returns : goal.returns
returns c = unfit_is c.args.circuit.now c.args.arch.now c.in_ok-bles.bles (Some c.in-Some.number) c.in_ok-bles.ensures (sym c.in-Some.is ∙ c.first_unfit.ensures)
