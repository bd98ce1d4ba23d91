use Rattle.std.proofs.Common.{inr}
use Rattle.desk.proofs.run.print_help.Goals as goal

pub returns-in-Ok : goal.returns-in-Ok
returns-in-Ok g c =
    inr (record { help = _; written = c.write_help-written.result; writes = c.write_help-written.ensures; ended = c.of_writing.ensures })
