-- What a log leads to, when its lines are served again while workers make its steps.
use Rattle.std.specs.Prelude.{ℕ, ◌≡◌, ◌⊎◌, ◌+◌, ⊤, List, [], ◌∷◌, ◌++◌, codes, decimal, length, Bool, true, false, not, Option, IfSome}
use Rattle.std.specs.List.{flat_map, list_all}
use Rattle.live_threads.specs.Prelude.{Step, Take, Put, with_feed, AreAnswered, Asked, LiveState, asked_of, Operates, Says, AnswersLine, kept_lines, form_of, is_wait, IsHome, View, IsRetold, Retells, TellsPart}
use Rattle.live_threads.specs.Fed.{AreFirst, Fed}

-- the operator takes a job with that line, or puts one
abbrev pub moves_job : Asked → Bool
moves_job (Operates (Take name)) = true
moves_job (Operates (Put number)) = true
moves_job asked = false

-- with none of these lines he does
abbrev pub move_no_job : List (List ℕ) → Bool
move_no_job lines = list_all (λ line. not (moves_job (asked_of line))) lines

-- a line that puts the job of that number
abbrev pub put_line : ℕ → List ℕ
put_line job = with_feed (codes "op put " ++ decimal job)

-- Lines of a log lead to that live service: they are answered one after another as without workers,
-- and the later replies are that text. A log in which the operator took or put jobs leads to some
-- service.
abbrev pub LeadsFrom : Option ℕ → LiveState → List (List ℕ) → List ℕ → LiveState → Type 0
LeadsFrom told begun lines text new = move_no_job lines ≡ true → AreAnswered (Retells told) begun 1 lines text new

-- the lines of a log lead to that live service, and to that number of the next line, and the later
-- replies were written. Jobs that the operator holds there are put, by these lines
pub record Replays (told : Option ℕ) (begun : LiveState) (log : Option (List ℕ)) (before : View) (new : LiveState) (next : ℕ) (put : List ℕ) (after : View) : Type 0 where
  pub lines : List (List ℕ)
  pub all : IfSome log (λ bytes. lines ≡ kept_lines bytes)
  pub jobs : List ℕ
  pub put_is : put ≡ flat_map put_line jobs
  pub text : List ℕ
  pub leads : LeadsFrom told begun lines text new
  pub counts : move_no_job lines ≡ true → (next ≡ 1 + length lines) × (put ≡ [])
  pub retold : IsRetold told before after text

-- the first lines of a log were answered, and a beginning of the later replies was written
pub record StopsReplay (told : Option ℕ) (begun : LiveState) (log : Option (List ℕ)) (before after : View) : Type 0 where
  pub lines : List (List ℕ)
  pub first : IfSome log (λ bytes. AreFirst (kept_lines bytes) lines)
  pub text : List ℕ
  pub new : LiveState
  pub leads : LeadsFrom told begun lines text new
  pub said : List ℕ
  pub unsaid : List ℕ
  pub cut : text ≡ said ++ unsaid
  pub retold : IsRetold told before after said

-- private: lines lead from a live service to another one, and the later replies are that text, if
-- they move no job and the operator had taken none before; `taken` and `took` are how many he had
-- taken
abbrev pub LeadsTo : Option ℕ → LiveState → ℕ → ℕ → List (List ℕ) → List ℕ → LiveState → ℕ → ℕ → Type 0
LeadsTo told old number taken lines text new next took =
    move_no_job lines ≡ true → taken ≡ 0 → AreAnswered (Retells told) old number lines text new × (next ≡ number + length lines) × (took ≡ 0)

-- private: so it is of one line, which has that reply
abbrev pub HasReply : LiveState → ℕ → ℕ → List ℕ → List ℕ → LiveState → ℕ → Type 0
HasReply old number taken line reply new took = moves_job (asked_of line) ≡ false → taken ≡ 0 → AnswersLine old number line reply new × (took ≡ 0)

-- private: a line was served, and its reply was written if it is a later one
pub record ServesLine (told : Option ℕ) (old : LiveState) (number taken : ℕ) (line : List ℕ) (before : View) (new : LiveState) (next took : ℕ) (after : View) : Type 0 where
  pub text : List ℕ
  pub leads : LeadsTo told old number taken (line ∷ []) text new next took
  pub retold : IsRetold told before after text

-- private: a line was not served, or only a beginning of its reply was written
pub record CutsLine (told : Option ℕ) (old : LiveState) (number taken : ℕ) (line : List ℕ) (before after : View) : Type 0 where
  pub text : List ℕ
  pub new : LiveState
  pub next : ℕ
  pub took : ℕ
  pub leads : LeadsTo told old number taken (line ∷ []) text new next took
  pub part : TellsPart told before after text

abbrev pub StopsLine : Option ℕ → LiveState → ℕ → ℕ → List ℕ → View → View → Type 0
StopsLine told old number taken line before after = (after ≡ before) ⊎ CutsLine told old number taken line before after

-- private: no worker has what a line needs
abbrev pub IsServable : LiveState → Asked → List ℕ → Type 0
IsServable live (Says name said) line = (is_wait (form_of line) ≡ false) ⊎ IsHome live name
IsServable live (Operates (Step name count)) line = IsHome live name
IsServable live asked line = ⊤

-- private: these lines put jobs
abbrev pub ArePuts : List ℕ → Type 0
ArePuts text = (jobs : List ℕ) × (text ≡ flat_map put_line jobs)

-- private: jobs that the operator held were put, by these lines; if he took none, nothing changes
pub record PutsHeld (old : LiveState) (number taken : ℕ) (new : LiveState) (next : ℕ) (put : List ℕ) : Type 0 where
  pub puts : ArePuts put
  pub none : taken ≡ 0 → (new ≡ old) × (next ≡ number) × (put ≡ [])

-- private: the first lines of a log were served, and the later replies were written
pub record ReplaysSome (told : Option ℕ) (begun : LiveState) (input now : Option (List ℕ)) (ahead kept : List ℕ) (before : View) (new : LiveState) (next taken : ℕ) (after : View) : Type 0 where
  pub fed : List (List ℕ)
  pub is_fed : Fed input now ahead kept fed
  pub text : List ℕ
  pub leads : LeadsTo told begun 1 0 fed text new next taken
  pub retold : IsRetold told before after text
