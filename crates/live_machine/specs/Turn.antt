-- What was served, in order, and what of it is kept and told.
use Rattle.std.specs.Prelude.{ℕ, ◌≡◌, ◌⊎◌, ◌+◌, List, [], ◌∷◌, Bool, true, false, ⊤}
use Rattle.live_machine.specs.Prelude.{Step, no_memory_text, output_of, with_feed, Asked, LiveState, asked_of, for_name, NoForm, Operates, Says, AnswersLine}
use Rattle.std.specs.List.{flat_map}
use Rattle.live_machine.specs.Held.{form_of, is_wait}
use Rattle.live_machine.specs.Machine.{IsLine, IsMade, IsStatusFor, is_by_hand}

-- a turn: a line that came was served as that line, and had that reply; or a worker's line was
-- served; or an item of a name, of these lines, was lost
pub data Turn : Type 0 where
  Answers : List ℕ → List ℕ → List ℕ → Turn
  Works : List ℕ → List ℕ → Turn
  Loses : List ℕ → List (List ℕ) → Turn

-- the lines that came
abbrev pub heard_in : Turn → List (List ℕ)
heard_in (Answers heard line reply) = heard ∷ []
heard_in (Works line reply) = []
heard_in (Loses name lines) = lines

-- the lines that were served: they are kept
abbrev pub served_in : Turn → List (List ℕ)
served_in (Answers heard line reply) = line ∷ []
served_in (Works line reply) = line ∷ []
served_in (Loses name lines) = []

-- all replies, those to workers too
abbrev pub reply_in : Turn → List ℕ
reply_in (Answers heard line reply) = reply
reply_in (Works line reply) = reply
reply_in (Loses name lines) = []

-- what is told: an item that was lost is answered that memory ran out
abbrev pub told_in : Turn → List ℕ
told_in (Answers heard line reply) = reply
told_in (Works line reply) = []
told_in (Loses name lines) = output_of (for_name name no_memory_text ∷ [])

abbrev pub heard_lines : List Turn → List (List ℕ)
heard_lines turns = flat_map heard_in turns

abbrev pub served_lines : List Turn → List (List ℕ)
served_lines turns = flat_map served_in turns

abbrev pub log_of : List Turn → List ℕ
log_of turns = flat_map with_feed (served_lines turns)

abbrev pub replies_of : List Turn → List ℕ
replies_of turns = flat_map reply_in turns

abbrev pub told_of : List Turn → List ℕ
told_of turns = flat_map told_in turns

-- the turns, one after another; the first line that is served has that number
abbrev pub IsDay : LiveState → ℕ → List Turn → LiveState → ℕ → Type 0
IsDay old number [] new next = (new ≡ old) × (next ≡ number)
IsDay old number (Answers heard line reply ∷ turns) new next = (mid : LiveState) × AnswersLine old number line reply mid × IsDay mid (number + 1) turns new next
IsDay old number (Works line reply ∷ turns) new next = (mid : LiveState) × AnswersLine old number line reply mid × IsDay mid (number + 1) turns new next
IsDay old number (Loses name lines ∷ turns) new next = IsDay old number turns new next

-- a line is served as itself, but a `wait` may be served as `status`, and a line that makes steps
-- by hand as one without a form
abbrev pub IsNobodysLine : Bool → List ℕ → List ℕ → Type 0
IsNobodysLine false heard line = line ≡ heard
IsNobodysLine true heard line = IsMade NoForm line

abbrev pub IsServedAs : Asked → List ℕ → List ℕ → Type 0
IsServedAs (Says name said) heard line = (line ≡ heard) ⊎ ((is_wait (form_of heard) ≡ true) × IsStatusFor name heard line)
IsServedAs asked heard line = IsNobodysLine (is_by_hand asked) heard line

abbrev pub IsServedTurn : Turn → Type 0
IsServedTurn (Answers heard line reply) = IsLine line × IsServedAs (asked_of heard) heard line
IsServedTurn (Works line reply) = IsLine line × ((name : List ℕ) × IsMade (Operates (Step name 1)) line)
IsServedTurn (Loses name lines) = ⊤
