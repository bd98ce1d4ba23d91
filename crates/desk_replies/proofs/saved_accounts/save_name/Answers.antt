use Rattle.desk_replies.proofs.Prelude.{subst, AreAdded, added_none, if_present, account_now}
use Rattle.desk_replies.proofs.SavedFiles.{name_added, no_utf8}
use Rattle.desk_replies.proofs.saved_accounts.save_name.Goals as goal

pub returns-in_default : goal.returns-in_default
returns-in_default g c = rw (no_utf8 c.args.account.name.now c.in_default.ensures.cases.0) (added_none _)

pub returns : goal.returns
returns g c =
    let account = account_now c.args.account in
    let written = g.O.FileOutputs.written in
    let none = written c.args.outputs.now in
    let net = written c.save_file.new.outputs in
    let place = written c.save_file-2.new.outputs in
    let route = written c.save_file-3.new.outputs in
    name_added c.args.folder.now account c.in-Ok.name.now none net place route c.in-Ok.ensures.cases.0 c.in-Ok.ensures.cases.1
    (subst (λ file. AreAdded none net (if_present file.folder.now file.name.now file.kind.now account.files.net.text)) c.file_of.ensures c.in_ok-net.ensures)
    (subst (λ file. AreAdded net place (if_present file.folder.now file.name.now file.kind.now account.files.place.text)) c.file_of-2.ensures c.in_ok-place.ensures)
    (subst (λ file. AreAdded place route (if_present file.folder.now file.name.now file.kind.now account.files.route.text)) c.file_of-3.ensures c.in_ok-route.ensures)
