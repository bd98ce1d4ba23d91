use Rattle.live_promises.proofs.Prelude.{IsAccount, replies_of, served_lines, begins, ◌++◌}
use Rattle.live_promises.proofs.law.machine_promises.Goals as goal

pub returns : goal.returns
returns c = λ device calls now run.
    let a : IsAccount (begins device) 1 calls now = c.machine_law.ensures.account (begins device) 1 calls now run in
    (a, c.live_promises.ensures device (served_lines (a.taken ++ a.rest)) (replies_of (a.taken ++ a.rest)) now.live (c.machine_law.ensures.answered (begins device) 1 calls now a))
