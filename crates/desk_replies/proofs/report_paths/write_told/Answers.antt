use Rattle.desk_replies.proofs.Prelude.{map, named_act, IsOveruseOf, told_accounts}
use Rattle.desk_replies.proofs.PathTexts.{told_written}
use Rattle.desk_replies.proofs.report_paths.write_told.Goals as goal

pub returns : goal.returns
returns g c =
    let served = c.args.told.served in
    let paths = c.in_ok-write_paths.ensures in
    told_written g.W.Sink.contents g.W.Sink.has_failed _ _ _ _ (IsOveruseOf served.device (map named_act served.acts.now) served.replies.now) (told_accounts c.args.told) c.args.report.now paths.0 c.write_overuses.result
    c.in_ok-write_report.ensures paths.1 paths.2 (rw c.deref.ensures.value at c.write_overuses.ensures)
