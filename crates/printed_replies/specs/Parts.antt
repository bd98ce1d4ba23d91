-- Private: the results of the parts of reading.
use Rattle.std.specs.Prelude.{ℕ, ◌≡◌, List, map, option_map, Option, Result, Ok, Err}
use Rattle.std.specs.Borrow.{Bor}
use Rattle.printed_replies.specs.declared.answered.Answered.{Answered}
use Rattle.printed_replies.specs.declared.reading.Left.{Left}
use Rattle.printed_replies.specs.declared.reading.Place.{Place}
use Rattle.printed_replies.specs.Replies.{AnsweredLine, Reading, Rest, Speaker, answered_line}

abbrev pub rest_at : Place → Rest
rest_at place = record { live = place.live; bytes = place.rest.now }

abbrev pub speaker_of : Option (Bor (List ℕ)) → Speaker
speaker_of name = option_map (λ n. n.now) name

abbrev pub answered_lines : List Answered → List AnsweredLine
answered_lines lines = map answered_line lines

-- what was read has that value
abbrev pub IsRead : {A B : Type 0} → (A → B) → Reading B → Result A Left → Type 0
IsRead view meant (Ok read) = meant ≡ Ok (view read)
IsRead view meant (Err left) = meant ≡ Err left.bytes
