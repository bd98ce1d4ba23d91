use Rattle.tenancy_script.proofs.Prelude.{◌≡◌, ◌+◌, ◌≤◌, length, physical_lines, fault_from, text_fault}
use Rattle.tenancy_script.proofs.fault.text_fault.Given as goal

-- no line so far has a fault, and the others are checked against the number of bytes that may still
-- come
abbrev pub invariant-loop-rest : goal.invariant-loop-rest
invariant-loop-rest l = record {
  same : fault_from l.number l.room (physical_lines l.rest) ≡ text_fault l.text;
  counted : l.number + length l.rest ≤ length l.text + 1;
}

abbrev pub decreases-loop-rest : goal.decreases-loop-rest
decreases-loop-rest l = length l.rest
