use Rattle.desk_replies.proofs.Prelude.{◌∙◌, IfOk-weaker}
use Rattle.desk_replies.proofs.MoveLemmas.{moves_written}
use Rattle.desk_replies.proofs.report_moves.print_moves.Goals as goal

pub returns : goal.returns
returns g c =
    let same = c.as_slice-placed.ensures.value ∙ c.in_ok-strips.ensures in
    IfOk-weaker c.print_joining.result _ _ (λ _ joined. moves_written c.args.report.now c.as_slice-placed.result.now same c.in_ok-print_gaps.ensures joined) c.print_joining.ensures
