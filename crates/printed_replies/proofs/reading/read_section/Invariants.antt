use Rattle.printed_replies.proofs.Prelude.{◌≡◌, ◌≤◌, ◌-◌, length, drop, answered_lines, rest_at, speaker_of, asked_in, section_read}
use Rattle.printed_replies.proofs.SectionLemmas.{reads_at}
use Rattle.printed_replies.proofs.reading.read_section.Given as goal

-- reading at the remaining places gives the section
abbrev pub invariant-loop-number : goal.invariant-loop-number
invariant-loop-number l = record {
  within : l.number ≤ length l.places;
  live : l.place.live ≤ l.number;
  asked : asked_in (answered_lines l.lines.items) ≡ asked_in (answered_lines l.fn.lines.items);
  read : reads_at (rest_at l.place) (drop l.number l.places) (answered_lines l.lines.items) ≡ section_read (speaker_of l.speaker) (answered_lines l.fn.lines.items) l.printed;
}

abbrev pub decreases-loop-number : goal.decreases-loop-number
decreases-loop-number l = length l.places - l.number
