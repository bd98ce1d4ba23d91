use Rattle.live_machine.proofs.Prelude.{sym, ap, ◌∙◌, asks}
use Rattle.live_machine.proofs.MachineLemmas.{is_said}
use Rattle.live_machine.proofs.machine.Machine.line.Goals as goal

pub hear-requires-clause-said : goal.hear-requires-clause-said
hear-requires-clause-said c =
    is_said c.in-Says.name.now c.in-Says.field-2.now c.args.line.now c.requires.is_line (sym c.in_ok-name.ensures.asks ∙ ap asks c.in-Says.is)
