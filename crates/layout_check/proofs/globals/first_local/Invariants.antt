use Rattle.layout_check.proofs.Prelude.{◌≡◌, ◌<◌, ℕ, get_or, true, is_global}
use Rattle.layout_check.proofs.globals.first_local.Given as goal

abbrev pub invariant-loop-net : goal.invariant-loop-net
invariant-loop-net l = (k : ℕ) → k < l.net-index → is_global l.circuit (get_or l.globals k 0) ≡ true
