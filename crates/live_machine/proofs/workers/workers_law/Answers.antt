use Rattle.live_machine.proofs.Here.{given, taken}
use Rattle.live_machine.proofs.HereAlone.{left_alone}
use Rattle.live_machine.proofs.HereLines.{line_here, said_here}
use Rattle.live_machine.proofs.HereStepLines.{nomemory_here, step_here, steps_here}
use Rattle.live_machine.proofs.workers.workers_law.Goals as goal

pub returns : goal.returns
returns c = record { line = line_here; said = said_here; steps = steps_here; step = step_here; nomemory = nomemory_here; taken = taken; given = given; alone = left_alone }
