use Rattle.script_replies.proofs.Prelude.{◌≡◌, map, answered_line, named_act, account_now}
use Rattle.script_replies.proofs.AccountLemmas.{account_at}
use Rattle.script_replies.proofs.accounts.add_acts.Given as goal

-- the accounts after the acts so far
abbrev pub invariant-loop-place : goal.invariant-loop-place
invariant-loop-place l = map account_now l.accounts.items ≡ map (account_at (map named_act l.acts) (map answered_line l.lines) l.place) l.names
