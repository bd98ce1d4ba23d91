-- What a name's session is answered depends on the name's own lines, and on which of its admissions
-- were granted; on nothing else of a script.
use Rattle.std.specs.Prelude.{codes, is_some, ◌&&◌, nat_le, ℕ, ◌≡◌, ◌⊎◌, ◌+◌, ◌<◌, ◌≤◌, ◌^◌, Bool, false, List, [], ◌∷◌, if◌then◌else◌, length, map, filter, Some, Ok, ⊤}
use Rattle.std.specs.Str.{bytes_eq}
use Rattle.replies_law.specs.Prelude.{MAX_ADMISSIONS, Act, Operator, Session, OperatorLine, Admit, Evict, Step, Take, refused_text, after_prefix, told_to, AnsweredLine, Reading, and_then, replies_in, Architecture, Options, IsReplies, start_of, Telling}
use Rattle.replies_law.specs.Memory.{HaveMemory}

-- a line of the operator is about the name if it admits it, evicts it or makes steps of its job. A
-- move of its strip isn't
abbrev pub is_about : List ℕ → OperatorLine (List ℕ) → Bool
is_about name (Admit other width) = bytes_eq name other
is_about name (Evict other) = bytes_eq name other
is_about name (Step other count) = bytes_eq name other
is_about name line = false

-- the name's own acts: its session's lines, and the operator's lines about it
abbrev pub is_own : List ℕ → Act (List ℕ) → Bool
is_own name (Session other line) = bytes_eq name other
is_own name (Operator line) = is_about name line

-- a script without everybody else
abbrev pub own_acts : List ℕ → List (Act (List ℕ)) → List (Act (List ℕ))
own_acts name acts = filter (is_own name) acts

abbrev pub own_tellings : List ℕ → List Telling → List Telling
own_tellings name tellings = filter (λ t. is_own name t.act) tellings

-- an admission is granted if it is answered `ok ..`
abbrev pub is_admitted : Act (List ℕ) → List ℕ → Bool
is_admitted (Operator (Admit name width)) text = is_some (after_prefix (codes "ok") text)
is_admitted act text = false

-- which of the name's admissions were granted
abbrev pub grants : List ℕ → List Telling → List Bool
grants name tellings = map (λ t. is_admitted t.act t.text) (own_tellings name tellings)

-- the operator takes no job of the name by hand
abbrev pub IsLeft : List ℕ → Act (List ℕ) → Type 0
IsLeft name (Operator (Take other)) = bytes_eq name other ≡ false
IsLeft name act = ⊤

abbrev pub AreLeft : List ℕ → List Telling → Type 0
AreLeft name [] = ⊤
AreLeft name (t ∷ ts) = IsLeft name t.act × AreLeft name ts

-- the name's section of the output, as `fpgad_desk files` reads it: line by line, each file by its
-- length
abbrev pub section_in : List ℕ → List (Act (List ℕ)) → List ℕ → Reading (List ℕ)
section_in name acts printed = and_then (replies_in acts printed) (λ lines. Ok (told_to (Some name) lines))

-- the answer to an own act, if it is the same for a name that is alone: to the session's lines, and
-- to the operator's steps and evictions. The answer to an admission has an id and an offset
abbrev pub own_answer : Act (List ℕ) → List ℕ → List ℕ
own_answer (Session name line) text = text
own_answer (Operator (Evict name)) text = text
own_answer (Operator (Step name count)) text = text
own_answer act text = []

-- these answers, one for each own act, in a script's lines with their replies
abbrev pub own_answers : List ℕ → List (Act (List ℕ)) → List AnsweredLine → List (List ℕ)
own_answers name [] lines = []
own_answers name (act ∷ acts) [] = []
own_answers name (act ∷ acts) (line ∷ lines) = if is_own name act then own_answer act line.reply ∷ own_answers name acts lines else own_answers name acts lines

-- these answers in the output
abbrev pub answers_in : List ℕ → List (Act (List ℕ)) → List ℕ → Reading (List (List ℕ))
answers_in name acts printed = and_then (replies_in acts printed) (λ lines. Ok (own_answers name acts lines))

-- two outputs have the same section for the name, and the same answers to its own acts
pub record ArePrintedAlike (name : List ℕ) (acts other_acts : List (Act (List ℕ))) (output other_output : List ℕ) : Type 0 where
  pub section : section_in name acts output ≡ section_in name other_acts other_output
  pub answers : answers_in name acts output ≡ answers_in name other_acts other_output

-- no job of the name is taken by hand, and memory doesn't run out for its own acts
pub record Plays (name : List ℕ) (tellings : List Telling) : Type 0 where
  pub left : AreLeft name tellings
  pub memory : HaveMemory (own_tellings name tellings)

-- Two runs print the same for a name if its own acts are the same in both scripts, the same of its
-- admissions are granted, and the devices have the same architecture and number of rows. The
-- columns, the other names, and the order of lines may differ.
abbrev pub IsTheSame : Type 0
IsTheSame = (options other : Options) (tracks other_tracks : ℕ) (architecture other_architecture : Architecture) (input other_input output other_output name : List ℕ) →
    (r : IsReplies options (start_of tracks architecture input) output) (s : IsReplies other (start_of other_tracks other_architecture other_input) other_output) →
    length output < 2 ^ 64 → length other_output < 2 ^ 64 → r.arch ≡ s.arch → options.rows ≡ other.rows →
    own_acts name r.acts ≡ own_acts name s.acts → grants name r.tellings ≡ grants name s.tellings → Plays name r.tellings → Plays name s.tellings →
    ArePrintedAlike name r.acts s.acts output other_output

-- an admission of the name is refused because the name is in use, or else it is granted exactly if
-- its width is 1 to that number of columns
abbrev pub fits : ℕ → ℕ → Bool
fits columns width = nat_le 1 width && nat_le width columns

abbrev pub IsGranted : ℕ → Act (List ℕ) → List ℕ → Type 0
IsGranted columns (Operator (Admit name width)) text = (text ≡ refused_text 7 (codes "NameInUse")) ⊎ (is_some (after_prefix (codes "ok") text) ≡ fits columns width)
IsGranted columns act text = ⊤

abbrev pub AreGranted : ℕ → List Telling → Type 0
AreGranted columns [] = ⊤
AreGranted columns (t ∷ ts) = IsGranted columns t.act t.text × AreGranted columns ts

-- the number of admissions
abbrev pub is_admit : Act (List ℕ) → ℕ
is_admit (Operator (Admit name width)) = 1
is_admit act = 0

abbrev pub admissions : List (Act (List ℕ)) → ℕ
admissions [] = 0
admissions (act ∷ acts) = is_admit act + admissions acts

-- Delete everybody else from the script, and serve the rest on a device as wide as the name's
-- widest strip, or wider: the name's section has the same bytes, and its steps and evictions have
-- the same answers.
abbrev pub IsAlone : Type 0
IsAlone = (options other : Options) (tracks other_tracks : ℕ) (architecture other_architecture : Architecture) (input other_input output other_output name : List ℕ) →
    (r : IsReplies options (start_of tracks architecture input) output) (s : IsReplies other (start_of other_tracks other_architecture other_input) other_output) →
    length output < 2 ^ 64 → length other_output < 2 ^ 64 → r.arch ≡ s.arch → options.rows ≡ other.rows →
    s.acts ≡ own_acts name r.acts → AreGranted other.columns (own_tellings name r.tellings) → admissions s.acts ≤ MAX_ADMISSIONS → Plays name r.tellings → HaveMemory s.tellings →
    ArePrintedAlike name r.acts s.acts output other_output
