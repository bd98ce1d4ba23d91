use Rattle.device_lines.proofs.WordLemmas.{after_is}
use Rattle.device_lines.proofs.words.after_text.Goals as goal

pub returns : goal.returns
returns c = after_is c.args.text.now c.args.bytes.now c.strip_prefix.result c.strip_prefix.ensures.cases
