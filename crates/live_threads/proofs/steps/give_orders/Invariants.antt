use Rattle.live_threads.proofs.Prelude.{◌≡◌, IsReady, machine_of}
use Rattle.live_threads.proofs.steps.give_orders.Given as goal

-- what others see of the machine stays
abbrev pub invariant-loop : goal.invariant-loop
invariant-loop g l = record {
  ready : IsReady l.machine;
  same : machine_of l.machine ≡ machine_of l.fn.machine;
}
