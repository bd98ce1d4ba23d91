use Rattle.live_threads.proofs.Prelude.{[], View, IsReady, machine_of, IsServed}
use Rattle.live_threads.proofs.steps.put_steps.Given as goal

-- what came so far is put
abbrev pub invariant-loop-letter : goal.invariant-loop-letter
invariant-loop-letter g l = record {
  ready : IsReady l.machine;
  served : (view : View) → IsServed (machine_of l.fn.machine) view [] (machine_of l.machine) view;
}
