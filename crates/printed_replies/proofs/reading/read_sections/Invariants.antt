use Rattle.printed_replies.proofs.Prelude.{◌≡◌, ◌≤◌, ◌-◌, length, drop, answered_lines, asked_in, read_from, sections_read}
use Rattle.printed_replies.proofs.reading.read_sections.Given as goal

-- reading the remaining sections gives the result of reading all
abbrev pub invariant-loop-number : goal.invariant-loop-number
invariant-loop-number l = record {
  within : l.number ≤ length l.sections.names;
  asked : asked_in (answered_lines l.lines.items) ≡ asked_in (answered_lines l.fn.lines.items);
  read : sections_read (drop l.number l.sections.names) (answered_lines l.lines.items) l.rest ≡ read_from l.sections.names (answered_lines l.fn.lines.items) l.printed;
}

abbrev pub decreases-loop-number : goal.decreases-loop-number
decreases-loop-number l = length l.sections.names - l.number
