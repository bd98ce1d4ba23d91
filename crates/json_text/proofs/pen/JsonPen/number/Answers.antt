use Rattle.json_text.proofs.Prelude.{rules, IsNumber-decimal}
use Rattle.json_text.proofs.pen.JsonPen.number.Goals as goal

pub token-requires : goal.token-requires
token-requires c = rw c.format.ensures.text (IsNumber-decimal c.args.count (search rules))
