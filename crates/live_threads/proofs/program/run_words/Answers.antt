use Rattle.live_threads.proofs.Prelude.{None}
use Rattle.live_threads.proofs.RunEnds.{refused}
use Rattle.live_threads.proofs.program.run_words.Goals as goal

pub returns-in-Err : goal.returns-in-Err
returns-in-Err g c = refused _ _ _ None _ c.new.ensures.input c.new.ensures.output c.new.ensures.log c.refusal_of.ensures
