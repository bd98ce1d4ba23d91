use Rattle.configuration_text.proofs.Prelude.{◌≡◌, ◌==◌, drop, find}
use Rattle.configuration_text.proofs.cells.table_driving.Given as goal

abbrev pub invariant-loop-place : goal.invariant-loop-place
invariant-loop-place l = find (λ table. table.output == l.net) (drop l.place l.circuit.tables) ≡ find (λ table. table.output == l.net) l.circuit.tables
