use Rattle.live_threads.proofs.Prelude.{[], machine_of}
use Rattle.live_threads.proofs.ServedLemmas.{served_none, served_then}
use Rattle.live_threads.proofs.steps.put_steps.Goals as goal

pub loop-letter-init : goal.loop-letter-init
loop-letter-init g c = record { ready = c.requires.ready; served = λ view. served_none (machine_of c.args.machine.now) view }

pub loop-letter-preserved : goal.loop-letter-preserved
loop-letter-preserved g c = record {
  ready = c.in_ok-put_step.ensures.ready;
  served = λ view. served_then _ _ _ view view view [] [] (c.loop-letter.invariant.served view) (c.in_ok-put_step.ensures.served view);
}
