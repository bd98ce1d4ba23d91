use Rattle.vpr_files.proofs.Prelude.{◌≡◌, ◌==◌, drop, position_from, outputs_of, elements_in, driver_place}
use Rattle.vpr_files.proofs.pin_words.driver_place.Given as goal

-- the BLEs before this one don't drive the net
abbrev pub invariant-loop-place : goal.invariant-loop-place
invariant-loop-place l = position_from (λ output. output == l.net) l.place (drop l.place (outputs_of (elements_in l.packed l.cluster))) ≡ driver_place l.packed l.cluster l.net
