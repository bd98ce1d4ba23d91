use Rattle.vpr_files.proofs.Prelude.{◌≡◌, ℕ, ◌&&◌, drop, Option, position_from, zip, Pin, is_same_class, pins_of, pin_with}
use Rattle.vpr_files.proofs.ClusterLemmas.{is_on}
use Rattle.vpr_files.proofs.pin_words.pin_with.Given as goal

-- no pin before this one is of the class and carries the net
abbrev pub invariant-loop-number : goal.invariant-loop-number
invariant-loop-number l = position_from (λ (pin : Pin × Option ℕ). is_same_class l.class pin.0.class && is_on l.net pin.1) l.number (drop l.number (zip l.packed.arch.pins (pins_of l.packed l.cluster))) ≡ pin_with l.packed l.cluster l.class l.net
