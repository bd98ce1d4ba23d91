use Rattle.live_machine.proofs.Prelude.{◌≡◌, ◌++◌, repeat}
use Rattle.live_machine.proofs.server.push_times.Given as goal

abbrev pub invariant-loop : goal.invariant-loop
invariant-loop l = l.told.items ≡ l.fn.told.items ++ repeat l.counter l.text
