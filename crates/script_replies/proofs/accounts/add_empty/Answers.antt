use Rattle.script_replies.proofs.Prelude.{◌≡◌, ◌∙◌, ap, map, rules, account_now, no_account, Account}
use Rattle.script_replies.proofs.AccountLemmas.{one_more_name}
use Rattle.script_replies.proofs.accounts.add_empty.Goals as goal

pub loop-number-preserved : goal.loop-number-preserved
loop-number-preserved c =
    let one : Account = record { name = c.name.result; usage = c.no_usage.result; files = c.no_files.result } in
    let is : account_now one ≡ no_account c.name.result.now = search rules in
    ap (map account_now) c.in_ok-push.ensures.items ∙ one_more_name c.args.names.now c.loop-number.accounts.items c.loop-number.number c.name.result.now one c.name.ensures is c.loop-number.invariant
