use Rattle.print_law.proofs.Prelude.{run}
use Rattle.print_law.proofs.Tools.{not_refused}
use Rattle.print_law.proofs.law.no_print_is_refused.Goals as goal

pub returns : goal.returns
returns c = λ arch strip events text paths outcome known size routed none_open at refused.
    not_refused (run arch strip events).0 (c.prints_are_filed.ensures arch strip events known size routed) none_open text paths outcome at refused
