-- What a name used, counted over the acts of a script and their replies.
use Rattle.std.specs.Prelude.{ℕ, ◌+◌, ◌^◌, ◌-◌, ◌<◌, Bool, true, false, cond, not, ◌&&◌, ◌||◌, List, length, filter, filter_map, map, sum, min, codes, Option, Some, None, if◌then◌else◌}
use Rattle.std.specs.List.{before_first, last_or, zip}
use Rattle.std.specs.Option.{option_map_or}
use Rattle.std.specs.Str.{bytes_eq}
use Rattle.script_replies.specs.Prelude.{is_blank, without_blanks, Act, Operator, Session, OperatorLine, Admit, Step, SessionLine, Blank, Command, Wait, Refused, Upload, Change, Pack, Place, Route, Cancel, Withdraw, Status, Net, PlaceFile, RouteFile, AnsweredLine}
use Rattle.tenant_slot.specs.declared.command.Command.{Command as TenantCommand}
use Rattle.script_replies.specs.declared.usage.Usage.{Usage}

-- a reply is a refusal by its first word
abbrev pub first_word : List ℕ → List ℕ
first_word reply = before_first is_blank (without_blanks reply)

abbrev pub is_refusal : List ℕ → Bool
is_refusal reply = bytes_eq (first_word reply) (codes "refused") || bytes_eq (first_word reply) (codes "line")

-- an act, and whether its reply is a refusal
pub record Told : Type 0 where
  pub act : Act (List ℕ)
  pub refused : Bool

-- the acts with their replies
abbrev pub told_of : List (Act (List ℕ)) → List AnsweredLine → List Told
told_of acts replies = map (λ (p : Act (List ℕ) × AnsweredLine). record { act = p.0; refused = is_refusal p.1.reply }) (zip acts replies)

-- a line of that name's session
abbrev pub is_own : List ℕ → Act (List ℕ) → Bool
is_own name (Session own line) = bytes_eq own name
is_own name (Operator line) = false

-- a command that begins a packing, a placing or a routing
abbrev pub is_stage : TenantCommand → Bool
is_stage Pack = true
is_stage (Place seed effort) = true
is_stage Route = true
is_stage (Upload text) = false
is_stage (Change text) = false
is_stage Cancel = false
is_stage Withdraw = false
is_stage Status = false
is_stage Net = false
is_stage PlaceFile = false
is_stage RouteFile = false

abbrev pub begins_job : SessionLine → Bool
begins_job (Command command) = is_stage command
begins_job Blank = false
begins_job Wait = false
begins_job (Refused refusal) = false

-- a line of that name's session with such a command
abbrev pub is_job : List ℕ → Act (List ℕ) → Bool
is_job name (Session own line) = bytes_eq own name && begins_job line
is_job name (Operator line) = false

-- the columns of an admission of the name, and the steps for which the operator asks in the name,
-- unless the reply is a refusal
abbrev pub columns_in : List ℕ → OperatorLine (List ℕ) → Option ℕ
columns_in name (Admit own columns) = if bytes_eq own name then Some columns else None
columns_in name line = None

abbrev pub steps_in : List ℕ → OperatorLine (List ℕ) → ℕ
steps_in name (Step own steps) = if bytes_eq own name then steps else 0
steps_in name line = 0

abbrev pub admitted_columns : List ℕ → Act (List ℕ) → Bool → Option ℕ
admitted_columns name (Operator line) refused = if refused then None else columns_in name line
admitted_columns name (Session own line) refused = None

abbrev pub steps_asked : List ℕ → Act (List ℕ) → Bool → ℕ
steps_asked name (Operator line) refused = if refused then 0 else steps_in name line
steps_asked name (Session own line) refused = 0

-- the last of these; 0 if there is none
abbrev pub last_of : List ℕ → ℕ
last_of numbers = option_map_or (λ number. number) (last_or None numbers) 0

-- what a name used: the columns of its last admission; the numbers of its lines, of those that were
-- refused, and of the jobs that it began; and the sum of the steps
abbrev pub usage_in : List ℕ → List Told → Usage
usage_in name told = record {
  columns = last_of (filter_map (λ one. admitted_columns name one.act one.refused) told);
  lines = length (filter (λ one. is_own name one.act) told);
  refused = length (filter (λ one. is_own name one.act && one.refused) told);
  jobs = length (filter (λ one. is_job name one.act && not one.refused) told);
  steps = min (sum (map (λ one. steps_asked name one.act one.refused) told)) (2 ^ 64 - 1);
}

abbrev pub usage_of : List ℕ → List (Act (List ℕ)) → List AnsweredLine → Usage
usage_of name acts replies = usage_in name (told_of acts replies)

-- private: the usage with one more act
abbrev pub with_line : SessionLine → Bool → Usage → Usage
with_line line refused usage =
    record usage { lines = usage.lines + 1; refused = usage.refused + cond refused 1 0; jobs = usage.jobs + cond (begins_job line && not refused) 1 0 }

abbrev pub with_operator : List ℕ → OperatorLine (List ℕ) → Bool → Usage → Usage
with_operator name (Admit own columns) refused usage = if bytes_eq own name && not refused then record usage { columns = columns } else usage
with_operator name (Step own steps) refused usage = if bytes_eq own name && not refused then record usage { steps = min (usage.steps + steps) (2 ^ 64 - 1) } else usage
with_operator name line refused usage = usage

abbrev pub with_act : List ℕ → Act (List ℕ) → Bool → Usage → Usage
with_act name (Operator line) refused usage = with_operator name line refused usage
with_act name (Session own line) refused usage = if bytes_eq own name then with_line line refused usage else usage

-- private: its counts are below the limit
pub record IsWithin (limit : ℕ) (usage : Usage) : Type 0 where
  pub lines : usage.lines < limit
  pub refused : usage.refused < limit
  pub jobs : usage.jobs < limit
