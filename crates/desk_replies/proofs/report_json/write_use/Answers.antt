use Rattle.desk_replies.proofs.Prelude.{ok_then, one_member, use_json}
use Rattle.desk_replies.proofs.report_json.write_use.Goals as goal

pub returns : goal.returns
returns c =
    ok_then c.write_used.result
    (one_member c.args.name.now (use_json c.args.tenancy c.args.one) c.args.pen.now c.key.new.self c.write_used.new.pen c.in_ok-key.ensures)
    c.write_used.ensures
