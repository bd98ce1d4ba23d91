use Rattle.live_lines.proofs.LawLemmas.{items_all, lines_replies, lines_tags, replies_all, tells_all}
use Rattle.live_lines.proofs.law.live_law.Goals as goal

pub returns : goal.returns
returns c = record { items = items_all; replies = replies_all; texts = lines_replies; tags = lines_tags; tells = tells_all }
