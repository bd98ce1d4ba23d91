-- One line before others.
use Rattle.pin_file.proofs.Prelude.{◌≡◌, ℕ, ◌+◌, ◌≤◌, List, [], ◌∷◌, ◌++◌, Option, Some, None, Result, Ok, Err, length, drop, slice_get, ap, ◌∙◌, drop_all, drop_more, get_or_from_slice_get, slice_get_within, JoinedLine, Pin, pin_of, pins_after, then_pins, NotAPin}

-- the line at the index is the first of those that are left
dropped : (lines : List JoinedLine) (number : ℕ) (line : JoinedLine) → slice_get lines number ≡ Some line → drop number lines ≡ line ∷ drop (number + 1) lines
dropped lines number line is = drop_more lines number line (slice_get_within lines number line is) ∙ ap (λ (l : JoinedLine). l ∷ drop (number + 1) lines) (get_or_from_slice_get lines number line line is)

pub one_taken : (before : List Pin) (lines : List JoinedLine) (number : ℕ) (line : JoinedLine) (pin : Pin) → slice_get lines number ≡ Some line → pin_of line ≡ Some pin → pins_after before (drop number lines) ≡ pins_after (before ++ pin ∷ []) (drop (number + 1) lines)
unfolding pins_after
one_taken before lines number line pin is taken = ap (pins_after before) (dropped lines number line is) ∙ ap (then_pins (λ more. pins_after more (drop (number + 1) lines)) before line.number) taken

pub one_refused : (before : List Pin) (lines : List JoinedLine) (number : ℕ) (line : JoinedLine) → slice_get lines number ≡ Some line → pin_of line ≡ None → pins_after before (drop number lines) ≡ Err (NotAPin line.number)
unfolding pins_after
one_refused before lines number line is refused = ap (pins_after before) (dropped lines number line is) ∙ ap (then_pins (λ more. pins_after more (drop (number + 1) lines)) before line.number) refused

pub none_left : (before : List Pin) (lines : List JoinedLine) (number : ℕ) → length lines ≤ number → pins_after before (drop number lines) ≡ Ok before
unfolding pins_after
none_left before lines number past = ap (pins_after before) (drop_all number lines past)
