use Rattle.line_feed.proofs.CutLemmas.{kept_part}
use Rattle.line_feed.proofs.fed_line.kept_bytes.Goals as goal

pub returns : goal.returns
returns c = kept_part c.args.line.now _ c.first_bytes.ensures
