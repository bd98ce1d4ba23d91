use Rattle.blif.proofs.Prelude.{◌∙◌, arith, number_of}
use Rattle.blif.proofs.NetNumbers.{numbers_at}
use Rattle.blif.proofs.parts.number_names.Goals as goal

pub loop-place-preserved : goal.loop-place-preserved
loop-place-preserved c =
    c.in_ok-push.ensures
    ∙ numbers_at (number_of c.args.driven.now.nets) c.args.numbers.now c.loop-place.numbers c.args.names.now c.loop-place.place _ _ (omega arith) c.name.ensures c.loop-place.invariant c.number.ensures
