-- Private: how the lines of a text are stored, as spans of all its words.
use Rattle.std.specs.Prelude.{ℕ, ◌-◌, ◌≤◌, List, map, take, drop, All}
use Rattle.line_text.specs.declared.lines.Span.{Span}
use Rattle.line_text.specs.Lines.{JoinedLine}

-- the line at a span of the words
abbrev pub seen_line : List (List ℕ) → Span → JoinedLine
seen_line words span = record { number = span.number; words = take (span.end - span.start) (drop span.start words) }

abbrev pub seen_lines : List (List ℕ) → List Span → List JoinedLine
seen_lines words spans = map (seen_line words) spans

-- each span is ordered and lies within this number of words
abbrev pub AreWithin : ℕ → List Span → Type 0
AreWithin count spans = All (λ s. (s.start ≤ s.end) × (s.end ≤ count)) spans
