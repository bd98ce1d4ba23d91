use Rattle.printed_replies.proofs.Prelude.{strip_prefix_is, Decides-eqb}
use Rattle.printed_replies.proofs.BehindLemmas.{behind-found}
use Rattle.printed_replies.proofs.length.after_prefix.Goals as goal

pub returns : goal.returns
returns c = behind-found c.args.start.now c.args.bytes.now c.strip_prefix.result (strip_prefix_is Decides-eqb c.args.bytes.now c.args.start.now c.strip_prefix.result c.strip_prefix.ensures.cases)
