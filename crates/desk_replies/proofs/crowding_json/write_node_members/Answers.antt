use Rattle.desk_replies.proofs.Prelude.{sym}
use Rattle.desk_replies.proofs.crowding_json.write_node_members.Goals as goal

pub returns : goal.returns
returns c = rw (sym c.kind_word.ensures) c.members.ensures
