use Rattle.std.proofs.Common.{sym, ◌∙◌}
use Rattle.line_feed.proofs.CutLemmas.{kept_none}
use Rattle.line_feed.proofs.fed_line.FedLine.clear.Goals as goal

pub returns : goal.returns
returns c = c.clear.ensures.items ∙ sym kept_none
