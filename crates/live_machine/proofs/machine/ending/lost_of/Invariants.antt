use Rattle.live_machine.proofs.Prelude.{◌≡◌, take, lost_texts}
use Rattle.live_machine.proofs.machine.ending.lost_of.Given as goal

abbrev pub invariant-loop-place : goal.invariant-loop-place
invariant-loop-place l = l.text.items ≡ lost_texts (take l.place l.held)
