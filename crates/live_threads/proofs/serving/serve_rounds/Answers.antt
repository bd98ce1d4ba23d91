use Rattle.live_threads.proofs.ServedLemmas.{on_err, served_more, served_stops, served_then, stopped_here}
use Rattle.live_threads.proofs.TakenLemmas.{takes_so, takes_then}
use Rattle.live_threads.proofs.serving.serve_rounds.Goals as goal

pub returns-in_err-put_steps-clause-stopped : goal.returns-in_err-put_steps-clause-stopped
returns-in_err-put_steps-clause-stopped g c = on_err c.from_residual.result _ (takes_so _ _ _ _ c.loop.invariant.served (λ lines s. stopped_here _ _ _ _ lines s))

pub returns-in_err-next-clause-stopped : goal.returns-in_err-next-clause-stopped
returns-in_err-next-clause-stopped g c =
    on_err c.from_residual-in_err-next.result _
    (takes_then _ _ _ _ _ _ c.loop.invariant.served c.in_err-next.ensures.stopped
    (λ lines more s t. served_stops _ _ _ _ _ lines more (served_more _ _ _ _ _ _ lines s (c.in_ok-put_steps.ensures.served _)) t))

pub returns-in_err-has_ended-clause-stopped : goal.returns-in_err-has_ended-clause-stopped
returns-in_err-has_ended-clause-stopped g c =
    on_err c.from_residual-in_err-has_ended.result _
    (takes_then _ _ _ _ _ _ c.loop.invariant.served c.in_ok-next.ensures.served
    (λ lines more s t. stopped_here _ _ _ _ _ (served_then _ _ _ _ _ _ lines more (served_more _ _ _ _ _ _ lines s (c.in_ok-put_steps.ensures.served _)) t)))

pub returns-then-is_over-clause-served : goal.returns-then-is_over-clause-served
returns-then-is_over-clause-served g c =
    takes_then _ _ _ _ _ _ c.loop.invariant.served c.in_ok-next.ensures.served
    (λ lines more s t. served_then _ _ _ _ _ _ lines more (served_more _ _ _ _ _ _ lines s (c.in_ok-put_steps.ensures.served _)) t)

pub loop-preserved : goal.loop-preserved
loop-preserved g c = record {
  ready = c.in_ok-next.ensures.ready;
  served = takes_then _ _ _ _ _ _ c.loop.invariant.served c.in_ok-next.ensures.served
      (λ lines more s t. served_then _ _ _ _ _ _ lines more (served_more _ _ _ _ _ _ lines s (c.in_ok-put_steps.ensures.served _)) t);
}
