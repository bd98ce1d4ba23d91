-- The texts of the replies to the operator, and the names under which tenancies were admitted.
use Rattle.std.specs.Prelude.{ℕ, ◌+◌, ◌-◌, ◌==◌, List, [], ◌∷◌, ◌++◌, length, reverse, slice_get, codes, decimal, Result, Ok, Err, Option, Some, None, unwrap_or, if◌then◌else◌}
use Rattle.std.specs.Option.{option_map_or}
use Rattle.std.specs.Str.{bytes_eq}
use Rattle.operator.specs.Prelude.{StepOutcome, Recorded, Full, Gone, NoMemory, state_text, offset_of, OpRefusal, op_refusal_number, op_refusal_text, History, state_of, ServiceState, live_of, blank_word, numbered_line, step_text}

-- a refusal of the operator as a line
abbrev pub refused_text : ℕ → List ℕ → List ℕ
refused_text number name = numbered_line (codes "refused") number name []

abbrev pub admitted_text : Result (ℕ × ℕ) OpRefusal → List ℕ
admitted_text (Ok given) = codes "ok" ++ blank_word (decimal given.0) ++ blank_word (decimal given.1) ++ 10 ∷ []
admitted_text (Err refusal) = refused_text (op_refusal_number refusal) (op_refusal_text refusal)

abbrev pub evicted_text : Result (Unit {0}) OpRefusal → List ℕ
evicted_text (Ok nothing) = codes "ok" ++ 10 ∷ []
evicted_text (Err refusal) = refused_text (op_refusal_number refusal) (op_refusal_text refusal)

-- the reply to a move: a strip that has moved is at that offset
abbrev pub moved_text : ℕ → Result (Unit {0}) OpRefusal → List ℕ
moved_text offset (Ok nothing) = codes "ok" ++ blank_word (decimal offset) ++ 10 ∷ []
moved_text offset (Err refusal) = refused_text (op_refusal_number refusal) (op_refusal_text refusal)

-- the result of making a step, as a word
abbrev pub outcome_word : StepOutcome → List ℕ
outcome_word (Recorded reply) = step_text reply
outcome_word Full = codes "full"
outcome_word Gone = codes "gone"
outcome_word NoMemory = codes "nomemory"
outcome_word outcome = codes "none"

-- the result of making a step, as a line
abbrev pub outcome_text : StepOutcome → List ℕ
outcome_text outcome = outcome_word outcome ++ 10 ∷ []

-- the number of a job that was taken
abbrev pub taken_text : Option ℕ → List ℕ
taken_text number = option_map_or (λ n. codes "ok job" ++ blank_word (decimal n) ++ 10 ∷ []) number (codes "none" ++ 10 ∷ [])

-- the last id of a name, or 0. The names are those of all ids, newest first; the oldest has id 1
abbrev pub last_id : List (List ℕ) → List ℕ → ℕ
last_id [] name = 0
last_id (newest ∷ older) name = if bytes_eq newest name then length older + 1 else last_id older name

-- the name of an id, if the id was given
abbrev pub name_of : List (List ℕ) → ℕ → Option (List ℕ)
name_of names id = if id == 0 then None else slice_get (reverse names) (id - 1)

-- the names after an admission with that answer
abbrev pub names_after : List (List ℕ) → List ℕ → Result (ℕ × ℕ) OpRefusal → List (List ℕ)
names_after names name (Ok given) = name ∷ names
names_after names name (Err refusal) = names

-- the line of a tenancy in the operator's list, if it is live: its id, its name, its strip's offset
-- and width, and its state
abbrev pub listed_text : Option History → Option ℕ → ℕ → List ℕ → List ℕ
listed_text None offset id name = []
listed_text (Some h) offset id name =
    decimal id ++ blank_word name ++ blank_word (decimal (unwrap_or offset 0)) ++ blank_word (decimal h.strip.width) ++ blank_word (state_text (state_of h).name) ++ 10 ∷ []

abbrev pub list_lines : ServiceState → ℕ → List ℕ → List ℕ
list_lines service id name = listed_text (live_of service.histories id) (offset_of service.plan.strips id) id name

-- the live tenancies by rising id, one line each
abbrev pub list_text : ServiceState → List (List ℕ) → List ℕ
list_text service [] = []
list_text service (newest ∷ older) = list_text service older ++ list_lines service (length older + 1) newest
