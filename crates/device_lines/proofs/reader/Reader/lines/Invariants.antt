use Rattle.device_lines.proofs.Prelude.{◌≡◌, option_map, later_lines, lines_of, lines_read, nothing_seen, seen_of}
use Rattle.device_lines.proofs.ReadLemmas.{rest_size}
use Rattle.device_lines.proofs.reader.Reader.lines.Given as goal

abbrev pub invariant-loop-rest : goal.invariant-loop-rest
invariant-loop-rest l = lines_read (lines_of l.text) (nothing_seen l.fn.self.device.size) 0 ≡ lines_read (later_lines (option_map (λ rest. rest.now) l.rest)) (seen_of l.self) l.lines

abbrev pub decreases-loop-rest : goal.decreases-loop-rest
decreases-loop-rest l = rest_size (option_map (λ rest. rest.now) l.rest)
