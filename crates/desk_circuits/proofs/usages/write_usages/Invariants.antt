use Rattle.desk_circuits.proofs.Prelude.{take, account_now, ShowsUsage}
use Rattle.desk_circuits.proofs.Shown.{IsShown}
use Rattle.desk_circuits.proofs.usages.write_usages.Given as goal

-- the accounts before this one are shown
abbrev pub invariant-loop-account : goal.invariant-loop-account
invariant-loop-account g l = IsShown g.W.Sink.contents g.W.Sink.has_failed (λ account. ShowsUsage l.is_table (account_now account)) (take l.account-index l.accounts) l.initial.writer l.writer
