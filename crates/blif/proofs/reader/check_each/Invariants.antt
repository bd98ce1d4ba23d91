use Rattle.blif.proofs.Prelude.{◌≡◌, ◌≤◌, [], take, drop, length, flat_map, numbers_of, first_fault, names_of, sights_of, line_faults, MAX_NETS}
use Rattle.blif.proofs.reader.check_each.Given as goal

-- no line so far has a fault
abbrev pub invariant-loop-place : goal.invariant-loop-place
invariant-loop-place l = record {
  sights : l.checker ≡ sights_of l.fn.checker.declared (take l.place l.lines);
  few : length l.checker.nets ≤ MAX_NETS;
  numbers : l.numbers ≡ numbers_of [] (flat_map names_of (take l.place l.lines));
  faults_left : first_fault (line_faults l.lut_size l.fn.checker.declared (take l.place l.lines) (drop l.place l.lines)) ≡ first_fault (line_faults l.lut_size l.fn.checker.declared [] l.lines);
}
