use Rattle.json_text.proofs.Prelude.{flat_map, begin_object, end_object, member_of, member_tokens}
use Rattle.json_text.proofs.Tokens.{between, ok_then}
use Rattle.json_text.proofs.pen.JsonPen.object.Goals as goal

pub returns : goal.returns
returns c =
    ok_then c.close_object.result
    (between begin_object end_object c.args.self.now c.open_object.new.self c.members.new.self c.close_object.new.self (flat_map (λ one. member_tokens (member_of one)) c.args.members.now) c.in_ok-open_object.ensures c.in_ok-members.ensures)
    c.close_object.ensures
