use Rattle.desk_replies.proofs.Prelude.{◌≡◌, drop, map, account_now, account_of}
use Rattle.desk_replies.proofs.report_facts.account_of.Given as goal

-- the first one is among those that are left
abbrev pub invariant-loop-account : goal.invariant-loop-account
invariant-loop-account l = account_of (map account_now (drop l.account-index l.accounts)) l.name ≡ account_of (map account_now l.accounts) l.name
