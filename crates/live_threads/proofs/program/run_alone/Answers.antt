use Rattle.live_threads.proofs.Prelude.{None}
use Rattle.live_threads.proofs.RunEnds.{alone}
use Rattle.live_threads.proofs.program.run_alone.Goals as goal

pub returns : goal.returns
returns g c = alone _ _ _ _ None c.args.line.now _ c.new-connection.ensures.input c.new-connection.ensures.output c.new-connection.ensures.log c.run_line-outcome.ensures
