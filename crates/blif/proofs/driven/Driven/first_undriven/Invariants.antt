use Rattle.blif.proofs.Prelude.{◌≡◌, ◌++◌, drop, first_of, texts, undriven_names}
use Rattle.blif.proofs.driven.Driven.first_undriven.Given as goal

-- the nets so far are driven
abbrev pub invariant-loop-place : goal.invariant-loop-place
invariant-loop-place l =
    first_of (undriven_names (l.self.clocks ++ l.self.drivers) (texts (drop l.place l.names))) ≡ first_of (undriven_names (l.self.clocks ++ l.self.drivers) (texts l.names))
