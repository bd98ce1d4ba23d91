use Rattle.desk_replies.proofs.Prelude.{◌++◌, members_more, object_written, ok_then, device_members, list_members}
use Rattle.desk_replies.proofs.report_json.write_report.Goals as goal

pub returns : goal.returns
returns c =
    let report = c.args.report.now in
    let front = device_members report.size report.columns in
    let last = list_members report c.args.facts.now in
    ok_then c.close_object.result
    (object_written (front ++ last) c.args.pen.now c.open_object.new.self c.write_list_members.new.pen c.close_object.new.self c.in_ok-open_object.ensures
    (members_more front last c.open_object.new.self c.write_device_members.new.pen c.write_list_members.new.pen c.in_ok-write_device_members.ensures c.in_ok-write_list_members.ensures))
    c.close_object.ensures
