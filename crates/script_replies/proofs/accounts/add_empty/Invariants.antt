use Rattle.script_replies.proofs.Prelude.{◌≡◌, map, take, account_now, no_account}
use Rattle.script_replies.proofs.accounts.add_empty.Given as goal

-- the names so far
abbrev pub invariant-loop-number : goal.invariant-loop-number
invariant-loop-number l = map account_now l.accounts.items ≡ map no_account (take l.number l.names)
