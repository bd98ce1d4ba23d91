use Rattle.desk_replies.proofs.Prelude.{sym, is_utf8-from_IsUtf8, added_none}
use Rattle.desk_replies.proofs.SavedFiles.{no_utf8}
use Rattle.desk_replies.proofs.tenants.save_text.Goals as goal

pub returns-in_default : goal.returns-in_default
returns-in_default g c = rw (no_utf8 c.args.name.now c.in_default.ensures.cases.0) (added_none _)

pub returns : goal.returns
returns g c = rw (is_utf8-from_IsUtf8 c.args.name.now c.in-Ok.ensures.cases.1, sym c.in-Ok.ensures.cases.0) c.write_files.ensures
