use Rattle.desk_replies.proofs.Prelude.{all_then}
use Rattle.desk_replies.proofs.Ended.{ok_after}
use Rattle.desk_replies.proofs.files_text.write_lines.Goals as goal

pub returns : goal.returns
returns g c =
    let usages = c.in_ok-print_usages.ensures in
    ok_after c.write_summary.result _ c.write_summary.ensures (λ last. (usages.0, usages.1, all_then c.in_ok-write_told.ensures (all_then usages.2 last)))
