use Rattle.layout_check.proofs.Prelude.{◌≡◌, ◌<◌, ℕ, true, option_map_or, on_pin, is_in}
use Rattle.layout_check.proofs.wanted.are_served.Given as goal

abbrev pub invariant-loop-pin : goal.invariant-loop-pin
invariant-loop-pin l = (k : ℕ) → k < l.pin → option_map_or (is_in l.marks) (on_pin l.arch l.block l.class k) true ≡ true
