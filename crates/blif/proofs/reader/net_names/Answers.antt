use Rattle.blif.proofs.Prelude.{◌++◌, ◌∷◌, [], ◌∙◌, sym, ap, arith}
use Rattle.blif.proofs.Places.{take_place}
use Rattle.blif.proofs.reader.net_names.Goals as goal

pub loop-net-preserved : goal.loop-net-preserved
loop-net-preserved c =
    c.in_ok-push.ensures
    ∙ ap (λ names. names ++ c.name.result.now ∷ []) c.loop-net.invariant
    ∙ sym (take_place c.args.names.now c.loop-net.net _ (omega arith) c.name.ensures)
