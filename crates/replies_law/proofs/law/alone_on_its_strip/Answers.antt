use Rattle.replies_law.proofs.Solo.{is_alone}
use Rattle.replies_law.proofs.law.alone_on_its_strip.Goals as goal

pub returns : goal.returns
returns c = is_alone
