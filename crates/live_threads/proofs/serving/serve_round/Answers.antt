use Rattle.live_threads.proofs.ServedLemmas.{on_err, served_more, served_same, stopped_here, stops_more}
use Rattle.live_threads.proofs.StepLemmas.{turn_served}
use Rattle.live_threads.proofs.TakenLemmas.{takes_so}
use Rattle.live_threads.proofs.serving.serve_round.Goals as goal

pub returns-in_err-has_more-clause-stopped : goal.returns-in_err-has_more-clause-stopped
returns-in_err-has_more-clause-stopped g c =
    on_err c.from_residual-in_err-has_more.result _ (takes_so _ _ _ _ c.in_ok-had_lines.ensures.served (λ lines s. stopped_here _ _ _ _ lines s))

pub returns-in_err-give_orders-clause-stopped : goal.returns-in_err-give_orders-clause-stopped
returns-in_err-give_orders-clause-stopped g c =
    on_err c.from_residual-in_err-give_orders.result _
    (takes_so _ _ _ _ c.in_ok-had_lines.ensures.served (λ lines s. stopped_here _ _ _ _ lines (served_more _ _ _ _ _ _ lines s (turn_served _ _ _ _ c.in_ok-has_more.ensures.turns))))

pub returns-in_err-deliver_due-clause-stopped : goal.returns-in_err-deliver_due-clause-stopped
returns-in_err-deliver_due-clause-stopped g c =
    on_err c.from_residual-in_err-deliver_due.result _
    (takes_so _ _ _ _ c.in_ok-had_lines.ensures.served
    (λ lines s. stops_more _ _ _ _ _ lines (served_same _ _ _ _ _ lines (served_more _ _ _ _ _ _ lines s (turn_served _ _ _ _ c.in_ok-has_more.ensures.turns)) c.in_ok-give_orders.ensures.same) c.in_err-deliver_due.ensures.stopped))

pub returns-clause-served : goal.returns-clause-served
returns-clause-served g c =
    takes_so _ _ _ _ c.in_ok-had_lines.ensures.served
    (λ lines s. served_more _ _ _ _ _ _ lines (served_same _ _ _ _ _ lines (served_more _ _ _ _ _ _ lines s (turn_served _ _ _ _ c.in_ok-has_more.ensures.turns)) c.in_ok-give_orders.ensures.same) c.in_ok-deliver_due.ensures.served)
