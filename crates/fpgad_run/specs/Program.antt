-- What a script and an architecture give before anything runs, and how a run ends.
use Rattle.std.specs.Prelude.{ℕ, ◌≡◌, Bool, true, false, List, [], map, take, Result, Ok, Err, Option, Some, None, unwrap_or, ⊤, IsOk, IfSome}
use Rattle.std.specs.Io.KnownBytes.{Appends}
use Rattle.fpgad_run.specs.Prelude.{Arch, ArchFault, arch_of, Device, NO_TEXT_LIMIT, empty_service, AreOwnJournals, AreParted, EachIsAlone, IsBook, HasOneOwner, Run, own_graph, Act, physical_lines, bytes_ahead, acts_from, Stage}
use Rattle.fpgad_run.specs.declared.options.Options.{Options}
use Rattle.fpgad_run.specs.declared.outcome.Outcome.{Outcome}
use Rattle.fpgad_run.specs.declared.outcome.Outcome.TheVariants.{Done, ArchUnreadable, ArchRefused, InputFailed, OutputFailed, ScriptFault, NoMemory, NotSettled}
use Rattle.fpgad_run.specs.declared.inputs.Architecture.{Architecture}
use Rattle.fpgad_run.specs.declared.inputs.Architecture.TheVariants.{InScript, Text, Unreadable}
use Rattle.fpgad_run.specs.EndToEnd.{AreToldAlone}
use Rattle.fpgad_run.specs.Run.{Telling, Tells, calls_of, replies_text}

-- the architecture and what the script says; or a fault, the architecture's before the script's
abbrev pub Start : Type 0 → Type 0
Start A = Result (Arch × A) Outcome

abbrev pub checked_start : {A : Type 0} → Result Arch ArchFault → Result A ℕ → Start A
checked_start (Err fault) said = Err (ArchRefused fault)
checked_start (Ok arch) (Err line) = Err (ScriptFault line)
checked_start (Ok arch) (Ok said) = Ok (arch, said)

-- an architecture at the script's head is the text before the script; if no line ends it, it is the
-- whole input. What the script says depends on its lines, and on whether a text comes first
abbrev pub start_by : {A : Type 0} → (Bool → List (List ℕ) → Result A ℕ) → ℕ → Architecture → List ℕ → Start A
start_by says tracks InScript input = checked_start (arch_of (unwrap_or (bytes_ahead (physical_lines input)) input) tracks) (says true (physical_lines input))
start_by says tracks (Text text) input = checked_start (arch_of text.now tracks) (says false (physical_lines input))
start_by says tracks Unreadable input = Err ArchUnreadable

-- a script that is served in order says what each of its lines asks
abbrev pub start_of : ℕ → Architecture → List ℕ → Start (List (Act (List ℕ)))
start_of tracks architecture input = start_by (acts_from 1) tracks architecture input

abbrev pub device_of : Options → Arch → Device
device_of options arch = record { arch = arch; columns = options.columns; rows = options.rows; text_limit = NO_TEXT_LIMIT }

-- the bytes are what a run of the acts from the empty device writes, over the device's own graph.
-- Each session's line is answered what its tenancy is answered alone, by the service for a single
-- user. So is each tenancy, with its journal and what it owns, by the calls of the run; the strips
-- are separated, and nothing has two owners
pub record IsReplies (options : Options) (start : Start (List (Act (List ℕ)))) (output : List ℕ) : Type 0 where
  pub arch : Arch
  pub acts : List (Act (List ℕ))
  pub begins : start ≡ Ok (arch, acts)
  pub tellings : List Telling
  pub last : Stage
  pub all : map (λ t. t.act) tellings ≡ acts
  pub told : Tells (record { names = []; jobs = []; service = empty_service (device_of options arch); graph = own_graph (device_of options arch) }) tellings last
  pub each_alone : AreToldAlone (device_of options arch) (record { names = []; jobs = []; service = empty_service (device_of options arch); graph = own_graph (device_of options arch) }) [] tellings
  pub runs : Run (empty_service (device_of options arch)) (calls_of tellings) last.service
  pub alone : EachIsAlone (device_of options arch) (calls_of tellings) last.service
  pub journals : AreOwnJournals (calls_of tellings) last.service
  pub parted : AreParted (device_of options arch) last.service
  pub book : IsBook (device_of options arch) (calls_of tellings) last.service
  pub exact : HasOneOwner last.service
  pub output_is : output ≡ replies_text tellings

-- what the texts decide about how a run ends
abbrev pub Decides : {A : Type 0} → Start A → Outcome → Type 0
Decides start Done = IsOk start
Decides start OutputFailed = IsOk start
Decides start NotSettled = IsOk start
Decides start InputFailed = ⊤
Decides start NoMemory = ⊤
Decides start outcome = start ≡ Err outcome

-- what is written, if the input is known: replies, or a beginning of them if the device fails;
-- nothing if the run ends before
abbrev pub WritesSuch : (List ℕ → List ℕ → Type 0) → Option (List ℕ) → Outcome → Option (List ℕ) → Option (List ℕ) → Type 0
WritesSuch AreReplies input Done old new = IfSome input (λ text. (output : List ℕ) × AreReplies text output × Appends old new output)
WritesSuch AreReplies input OutputFailed old new = IfSome input (λ text. (output : List ℕ) × (n : ℕ) × AreReplies text output × Appends old new (take n output))
WritesSuch AreReplies input outcome old new = new ≡ old

abbrev pub Writes : Options → Architecture → Option (List ℕ) → Outcome → Option (List ℕ) → Option (List ℕ) → Type 0
Writes options architecture input outcome old new = WritesSuch (λ text output. IsReplies options (start_of options.tracks architecture text) output) input outcome old new
