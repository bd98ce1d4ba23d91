use Rattle.printed_replies.proofs.PrintLemmas.{read_back}
use Rattle.printed_replies.proofs.law.printed_is_read.Goals as goal

pub returns : goal.returns
returns c = read_back
