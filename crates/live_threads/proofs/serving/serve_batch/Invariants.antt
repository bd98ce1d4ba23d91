use Rattle.live_threads.proofs.Prelude.{length, cut_lines, IsReady, machine_of, ServesSome}
use Rattle.live_threads.proofs.serving.serve_batch.Given as goal

-- the lines so far are served
abbrev pub invariant-loop-rest : goal.invariant-loop-rest
invariant-loop-rest g l = record {
  ready : IsReady l.machine;
  served : ServesSome (cut_lines l.batch) (cut_lines l.rest) (machine_of l.fn.machine) (g.O.Outlet.view l.fn.outlet) (machine_of l.machine) (g.O.Outlet.view l.outlet);
}

abbrev pub decreases-loop-rest : goal.decreases-loop-rest
decreases-loop-rest g l = length l.rest
