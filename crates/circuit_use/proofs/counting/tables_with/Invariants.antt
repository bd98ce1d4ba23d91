use Rattle.circuit_use.proofs.Prelude.{◌≡◌, ◌≤◌, count_by, take, has_inputs}
use Rattle.circuit_use.proofs.counting.tables_with.Given as goal

-- the tables before this one were counted
abbrev pub invariant-loop-place : goal.invariant-loop-place
invariant-loop-place l = record {
  few : l.count ≤ l.place;
  count : l.count ≡ count_by (has_inputs l.inputs) (take l.place l.tables);
}
