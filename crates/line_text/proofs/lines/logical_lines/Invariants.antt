use Rattle.line_text.proofs.Prelude.{◌≡◌, ◌+◌, ◌≤◌, length, enumerate_from, lines_of, physical_lines, reading_of}
use Rattle.line_text.proofs.OnePass.{read_all}
use Rattle.line_text.proofs.lines.logical_lines.Given as goal

abbrev pub invariant-loop-rest : goal.invariant-loop-rest
invariant-loop-rest l = record {
  read : lines_of l.text ≡ read_all (reading_of l.reader) (enumerate_from (l.number + 1) (physical_lines l.rest));
  number : l.number + length l.rest ≤ length l.text;
  count : l.reader.count + length l.rest ≤ length l.text;
}

abbrev pub decreases-loop-rest : goal.decreases-loop-rest
decreases-loop-rest l = length l.rest
