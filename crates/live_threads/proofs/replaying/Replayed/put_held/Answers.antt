use Rattle.live_threads.proofs.Prelude.{◌++◌, ap, ◌∙◌}
use Rattle.live_threads.proofs.ReplayLemmas.{puts_push}
use Rattle.live_threads.proofs.replaying.Replayed.put_held.Goals as goal

pub loop-number-preserved : goal.loop-number-preserved
loop-number-preserved g c = record {
  ready = c.in_ok-line.ensures.ready;
  puts = puts_push _ _ _ c.in-Some.number c.loop-number.invariant.puts c.in_ok-line.ensures.line (c.in_ok-extend_from_slice.ensures.items ∙ ap (λ l. c.loop-number.more.items ++ l) c.as_slice.ensures.value);
}
