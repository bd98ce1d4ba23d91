use Rattle.live_threads.proofs.Prelude.{List, ℕ, subst, cut_lines, machine_of, HasStopped, IsServed}
use Rattle.live_threads.proofs.ServedLemmas.{on_err, served_stops, served_then}
use Rattle.live_threads.proofs.TakenLemmas.{takes_one}
use Rattle.live_threads.proofs.serving.serve_lines.Goals as goal

pub returns-in_err-served-clause-stopped : goal.returns-in_err-served-clause-stopped
returns-in_err-served-clause-stopped g c =
    let S : List ℕ → Type 0 = λ b. HasStopped (machine_of c.loop-count.machine) (g.O.Outlet.view c.loop-count.outlet) (cut_lines b) (g.O.Outlet.view c.serve_batch-served.new.outlet) in
    on_err c.from_residual.result _
    (takes_one _ c.loop-count.lines c.pop.new.self c.in-Ok.batch _ _ c.loop-count.invariant.served c.in-Ok.ensures.ring c.in-Ok.ensures.ok.0
    (λ lines s. served_stops _ _ _ _ _ lines (cut_lines c.in-Ok.batch.items) s (subst S c.as_slice.ensures.value c.in_err-served.ensures.stopped)))

pub loop-count-preserved : goal.loop-count-preserved
loop-count-preserved g c =
    let S : List ℕ → Type 0 = λ b. IsServed (machine_of c.loop-count.machine) (g.O.Outlet.view c.loop-count.outlet) (cut_lines b) (machine_of c.serve_batch-served.new.machine) (g.O.Outlet.view c.serve_batch-served.new.outlet) in
    record {
      ready = c.in_ok-served.ensures.ready;
      served = takes_one _ c.loop-count.lines c.pop.new.self c.in-Ok.batch _ _ c.loop-count.invariant.served c.in-Ok.ensures.ring c.in-Ok.ensures.ok.0
          (λ lines s. served_then _ _ _ _ _ _ lines (cut_lines c.in-Ok.batch.items) s (subst S c.as_slice.ensures.value c.in_ok-served.ensures.served));
    }
