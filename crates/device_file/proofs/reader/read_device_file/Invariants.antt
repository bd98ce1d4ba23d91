use Rattle.device_file.proofs.Prelude.{◌≡◌, ◌+◌, ◌≤◌, length, physical_lines, lines_read, read_of, nothing_read}
use Rattle.device_file.proofs.reader.read_device_file.Given as goal

-- the lines that are left go on from what was read
abbrev pub invariant-loop-rest : goal.invariant-loop-rest
invariant-loop-rest l = record {
  whole : lines_read (physical_lines l.text) nothing_read 0 ≡ lines_read (physical_lines l.rest) (read_of l.reader) l.number;
  few : l.number + length l.rest ≤ length l.text;
}

abbrev pub decreases-loop-rest : goal.decreases-loop-rest
decreases-loop-rest l = length l.rest
