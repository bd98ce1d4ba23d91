use Rattle.blif.proofs.Prelude.{◌≡◌, ◌++◌, take, drop, map, flat_map, number_of, first_fault, names_of, parts_of, undriven_faults}
use Rattle.blif.proofs.reader.add_lines.Given as goal

-- each net that was read so far is driven, and the numbers of the later lines are left
abbrev pub invariant-loop-place : goal.invariant-loop-place
invariant-loop-place l = record {
  parts : l.parts ≡ parts_of l.driven.nets (take l.place l.lines);
  rest : l.rest ≡ map (number_of l.driven.nets) (flat_map names_of (drop l.place l.lines));
  faults_left : first_fault (flat_map (undriven_faults (l.driven.clocks ++ l.driven.drivers)) (drop l.place l.lines)) ≡ first_fault (flat_map (undriven_faults (l.driven.clocks ++ l.driven.drivers)) l.lines);
}
