-- What is printed of a log.
use Rattle.std.specs.Prelude.{ℕ, ◌≡◌, ◌≢◌, Bool, true, List, None, ⊤}
use Rattle.std.specs.List.{flat_map}
use Rattle.desk_log.specs.Prelude.{with_feed, AnswersLine, begins, kept_lines, LiveState, IsSafe, lines_in, CheckedLog, Device, first_differing, no_lines, Outcome, LogDiffers, NoMemory, OutputFailed}

-- why a log is not printed: the output failed, a line of the log says another sum than that of the
-- lines before it, or memory ran out
abbrev pub IsFailure : List ℕ → Bool → Outcome → Type 0
IsFailure log failed NoMemory = ⊤
IsFailure log failed OutputFailed = failed ≡ true
IsFailure log failed LogDiffers = first_differing no_lines (kept_lines log) ≢ None
IsFailure log failed other = ⊥

-- Private: the lines are all of the log's, or two services that begin so answer alike after all
-- lines and after these.
abbrev pub IsSafeLog : LiveState → List ℕ → CheckedLog → Type 0
IsSafeLog begun log checked = IsSafe AnswersLine begun begun log (lines_in checked.log)

-- This text is what is printed of a log. Its lines are all of the log's, or those of a shorter one:
-- two services that begin on that device, of which one is served the whole log and the other one
-- these lines, then answer the same questions alike.
pub record IsPrinted (device : Device) (log text : List ℕ) : Type 0 where
  pub lines : List (List ℕ)
  pub text_is : text ≡ flat_map with_feed lines
  pub safe : IsSafe AnswersLine (begins device) (begins device) log lines
