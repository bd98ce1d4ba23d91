use Rattle.live_threads.proofs.Prelude.{IsReady, machine_of, IsServed, TakesLines}
use Rattle.live_threads.proofs.serving.serve_rounds.Given as goal

-- what was taken so far is served
abbrev pub invariant-loop : goal.invariant-loop
invariant-loop g l = record {
  ready : IsReady l.machine;
  served : TakesLines l.fn.lines l.lines (λ heard. IsServed (machine_of l.fn.machine) (g.O.Outlet.view l.fn.outlet) heard (machine_of l.machine) (g.O.Outlet.view l.outlet));
}
