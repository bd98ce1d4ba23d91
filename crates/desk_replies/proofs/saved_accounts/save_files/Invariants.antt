use Rattle.desk_replies.proofs.Prelude.{take, flat_map, AreAdded, files_of_name, account_now}
use Rattle.desk_replies.proofs.saved_accounts.save_files.Given as goal

-- the files of the accounts before this one are written
abbrev pub invariant-loop-account : goal.invariant-loop-account
invariant-loop-account g l =
    AreAdded (g.O.FileOutputs.written l.fn.outputs) (g.O.FileOutputs.written l.outputs) (flat_map (λ account. files_of_name l.folder (account_now account)) (take l.account-index l.accounts))
