-- The answers to the lines of a script, one after another.
use Rattle.std.specs.Prelude.{ℕ, ◌≡◌, List, [], ◌∷◌, ◌++◌, if◌then◌else◌}
use Rattle.std.specs.List.{flat_map}
use Rattle.std.specs.Str.{bytes_eq}
use Rattle.fpgad_run.specs.Prelude.{Call, Run, Answer, Asks, LeavesNone, answer_text, Act, Operator, Session, Section, output_of, last_id, HasOwnGraph, Stage, IsServed}

-- an act makes those calls of the core and is answered that text; on the device's own graph a wait
-- leaves no step undone
abbrev pub IsAnswered : Stage → Act (List ℕ) → List Call → List ℕ → Stage → Type 0
IsAnswered old (Operator line) calls text new = IsServed old line calls text new
IsAnswered old (Session name line) calls text new = (answer : Answer)
    × Asks (last_id old.names name) line calls answer × Run old.service calls new.service × (new.names ≡ old.names)
    × (new.jobs ≡ old.jobs) × (text ≡ answer_text answer)
    × (new.graph ≡ old.graph) × (HasOwnGraph old → LeavesNone (last_id old.names name) line calls answer new.service)

-- an act with its calls and its text
pub record Telling : Type 0 where
  pub act : Act (List ℕ)
  pub calls : List Call
  pub text : List ℕ

-- acts are answered so, one after another
abbrev pub Tells : Stage → List Telling → Stage → Type 0
Tells old [] new = new ≡ old
Tells old (t ∷ ts) new = (mid : Stage) × IsAnswered old t.act t.calls t.text mid × Tells mid ts new

-- all calls of the core, in order
abbrev pub calls_of : List Telling → List Call
calls_of tellings = flat_map (λ t. t.calls) tellings

-- a text goes to the end of its name's section; the first one of a name opens its section, the last
abbrev pub with_text : List Section → List ℕ → List ℕ → List Section
with_text [] name text = record { name = name; text = text } ∷ []
with_text (s ∷ sections) name text = if bytes_eq name s.name then record s { text = s.text ++ text } ∷ sections else s ∷ with_text sections name text

abbrev pub told_session : List Section → Act (List ℕ) → List ℕ → List Section
told_session sections (Operator line) text = sections
told_session sections (Session name line) text = with_text sections name text

abbrev pub told_operator : Act (List ℕ) → List ℕ → List ℕ
told_operator (Operator line) text = text
told_operator (Session name line) text = []

-- the sections after those acts are answered
abbrev pub sections_after : List Section → List Telling → List Section
sections_after sections [] = sections
sections_after sections (t ∷ ts) = sections_after (told_session sections t.act t.text) ts

-- what is written
abbrev pub replies_text : List Telling → List ℕ
replies_text tellings = output_of (flat_map (λ t. told_operator t.act t.text) tellings) (sections_after [] tellings)
