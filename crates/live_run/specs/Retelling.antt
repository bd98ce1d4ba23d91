-- Lines of a log that are answered again. The replies to the later ones are written again.
use Rattle.std.specs.Prelude.{ℕ, ◌≡◌, List, [], ◌++◌, Bool, true, false, nat_lt, length, ◌+◌, Option, Some, None, Result, Ok, Err, IfSome, if◌then◌else◌}
use Rattle.std.specs.Io.KnownBytes.{Keeps}
use Rattle.live_run.specs.Prelude.{Event, Happens, View, kept_in, told_in, AreAnswered, ended_lines, LiveState, AnswersLine}
use Rattle.live_run.specs.declared.outcome.Outcome.{Outcome}
use Rattle.live_run.specs.declared.outcome.Outcome.TheVariants.{LogUnreadable, NoMemory, Stopped}

-- whether the reply to the line of that number is written
abbrev pub is_told : Option ℕ → ℕ → Bool
is_told None number = false
is_told (Some line) number = nat_lt line number

abbrev pub text_told : Option ℕ → ℕ → List ℕ → List ℕ
text_told told number reply = if is_told told number then reply else []

-- a line of that number is answered so, and that is written
pub record Retells (told : Option ℕ) (old : LiveState) (number : ℕ) (line text : List ℕ) (new : LiveState) : Type 0 where
  pub reply : List ℕ
  pub answered : AnswersLine old number line reply new
  pub text_is : text ≡ text_told told number reply

-- this text was written, and nothing else was done
pub record IsRetold (told : Option ℕ) (before after : View) (text : List ℕ) : Type 0 where
  pub events : List Event
  pub happens : Happens before after events
  pub kept : kept_in events ≡ []
  pub told_is : told_in events ≡ text
  pub quiet : told ≡ None → after ≡ before

-- all lines of the log were answered, and the later replies were written
pub record IsResumed (start : LiveState) (first : ℕ) (past : Option (List ℕ)) (told : Option ℕ) (mid : LiveState) (before begun : View) : Type 0 where
  pub lines : List (List ℕ)
  pub all : IfSome past (λ bytes. lines ≡ ended_lines bytes)
  pub text : List ℕ
  pub answered : AreAnswered (Retells told) start first lines text mid
  pub retold : IsRetold told before begun text
  pub input : Keeps before.remaining begun.remaining

-- The service stopped before: the first lines of the log were answered, and a beginning of the
-- later replies was written.
pub record StopsRetelling (start : LiveState) (first : ℕ) (past : Option (List ℕ)) (told : Option ℕ) (before after : View) : Type 0 where
  pub lines : List (List ℕ)
  pub are_first : IfSome past (λ bytes. (more : List (List ℕ)) × (ended_lines bytes ≡ lines ++ more))
  pub text : List ℕ
  pub new : LiveState
  pub answered : AreAnswered (Retells told) start first lines text new
  pub said : List ℕ
  pub unsaid : List ℕ
  pub cut : text ≡ said ++ unsaid
  pub retold : IsRetold told before after said

-- private: so it ended
abbrev pub EndsRetelling : LiveState → ℕ → Option (List ℕ) → Option ℕ → View → Result (Unit {0}) Outcome → LiveState → ℕ → View → Type 0
EndsRetelling start first past told before (Ok u) mid next after = (r : IsResumed start first past told mid before after) × (next ≡ first + length r.lines)
EndsRetelling start first past told before (Err LogUnreadable) mid next after = StopsRetelling start first past told before after
EndsRetelling start first past told before (Err NoMemory) mid next after = StopsRetelling start first past told before after
EndsRetelling start first past told before (Err (Stopped fault)) mid next after = StopsRetelling start first past told before after × (after.has_failed fault ≡ true)
EndsRetelling start first past told before (Err outcome) mid next after = ⊥

-- private: a beginning of that text was written
pub record TellsPart (told : Option ℕ) (before after : View) (text : List ℕ) : Type 0 where
  pub said : List ℕ
  pub unsaid : List ℕ
  pub cut : text ≡ said ++ unsaid
  pub retold : IsRetold told before after said

-- private: a reply was written, or a beginning, if it is one of the later ones
abbrev pub TellsReply : Option ℕ → ℕ → List ℕ → View → Result (Unit {0}) Outcome → View → Type 0
TellsReply told number reply before (Ok u) after = IsRetold told before after (text_told told number reply) × Keeps before.remaining after.remaining
TellsReply told number reply before (Err (Stopped fault)) after = TellsPart told before after (text_told told number reply) × (after.has_failed fault ≡ true)
TellsReply told number reply before (Err outcome) after = ⊥

-- private: a line was answered, and its reply was written, or a beginning
abbrev pub RetellsLine : LiveState → ℕ → List ℕ → Option ℕ → View → Result (Unit {0}) Outcome → LiveState → ℕ → View → Type 0
RetellsLine old number line told before (Ok u) new next after = (text : List ℕ) × Retells told old number line text new × IsRetold told before after text × Keeps before.remaining after.remaining × (next ≡ number + 1)
RetellsLine old number line told before (Err LogUnreadable) new next after = after ≡ before
RetellsLine old number line told before (Err NoMemory) new next after = after ≡ before
RetellsLine old number line told before (Err (Stopped fault)) new next after = (text : List ℕ) × Retells told old number line text new × TellsPart told before after text × (after.has_failed fault ≡ true)
RetellsLine old number line told before (Err outcome) new next after = ⊥
