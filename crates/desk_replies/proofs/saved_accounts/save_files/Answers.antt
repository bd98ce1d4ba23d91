use Rattle.desk_replies.proofs.Prelude.{ap, subst, sym, ◌∙◌, take_all, flat_map-map, flat_map, AreAdded, files_of_name, account_now}
use Rattle.desk_replies.proofs.saved_accounts.save_files.Goals as goal

pub returns : goal.returns
returns g c =
    subst (AreAdded _ _)
    (ap (flat_map (λ account. files_of_name c.args.folder.now (account_now account))) (take_all c.loop-account.account-index c.args.accounts.now c.loop-account-test.false)
    ∙ sym (flat_map-map (files_of_name c.args.folder.now) account_now c.args.accounts.now)) c.loop-account.invariant
