use Rattle.desk_circuits.proofs.Prelude.{slice_get-get_or, account_now, IsFactsOf}
use Rattle.desk_circuits.proofs.Zipped.{added_more}
use Rattle.desk_circuits.proofs.usages.add_facts.Goals as goal

pub loop-account-preserved : goal.loop-account-preserved
loop-account-preserved c =
    let accounts = c.args.accounts.now in
    let at = c.loop-account.account-index in
    let here = slice_get-get_or accounts at _ c.loop-account-test.true in
    added_more IsFactsOf account_now accounts at _ c.args.facts.now.items c.loop-account.facts.items _ c.facts_of_name.result here c.loop-account.invariant c.in_ok-push.ensures.items c.facts_of_name.ensures
