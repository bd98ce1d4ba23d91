use Rattle.desk_replies.proofs.Prelude.{map, take, account_now, IsShown, ShowsPath}
use Rattle.desk_replies.proofs.report_paths.write_each_path.Given as goal

-- the tenancies before this one are shown
abbrev pub invariant-loop-uses : goal.invariant-loop-uses
invariant-loop-uses g l = IsShown g.W.Sink.contents g.W.Sink.has_failed (ShowsPath l.is_row (map account_now l.accounts)) (take l.uses-index l.tenancies) l.initial.writer l.writer
