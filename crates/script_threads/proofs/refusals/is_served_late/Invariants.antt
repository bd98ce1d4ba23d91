use Rattle.script_threads.proofs.Prelude.{◌≡◌, drop, false, places_in, served_late}
use Rattle.script_threads.proofs.refusals.is_served_late.Given as goal

-- it depends on the items from here on
abbrev pub invariant-loop-i : goal.invariant-loop-i
invariant-loop-i l = served_late false (places_in l.items) ≡ served_late l.is_refused (places_in (drop l.i l.items))
