-- How the program of a live service ends.
use Rattle.std.specs.Prelude.{ℕ, ◌≡◌, ◌≢◌, ◌⊎◌, List, Option, Some, None, Result, Ok, Err, is_some, false}
use Rattle.live_threads.specs.Prelude.{Arch, arch_of, View, empty_service, own_graph, Device, CommandLine, Options, Outcome, Done, NoMemory, RunsLine, device_of, status_of}
use Rattle.live_threads.specs.Ends.{RunsInput, RunsOpened, empty_on}

-- the status is 2 if the words are refused
abbrev pub run_status : {E : Type 0} → Result Outcome E → ℕ
run_status (Ok outcome) = status_of outcome
run_status (Err error) = 2

-- Without workers, words that are refused write nothing. Others give a command line that runs,
-- unless memory runs out. So with status 0 all lines of the input are answered, and all replies are
-- written.
abbrev pub RunsWords : {E : Type 0} → View → View → Result Outcome E → Type 0
RunsWords before after (Err error) = after.output ≡ before.output
RunsWords before after (Ok outcome) = ((outcome ≡ NoMemory) × (after.output ≡ before.output)) ⊎ ((line : CommandLine) × RunsLine line before after outcome)

-- such a run over a connection without a log that has this input and this output
pub record RunsAlone {E : Type 0} (input output : Option (List ℕ)) (after : View) (outcome : Result Outcome E) : Type 0 where
  pub before : View
  pub remaining : before.remaining ≡ input
  pub written : before.output ≡ output
  pub has_log : before.has_log ≡ false
  pub runs : RunsWords before after outcome

-- with workers: a service with the numbers of the command line, over the architecture of its file,
-- and with a log exactly if the command line names one
pub record RunsThreads (line : CommandLine) (input output : Option (List ℕ)) (after : View) (outcome : Outcome) : Type 0 where
  pub architecture : List ℕ
  pub arch : Arch
  pub is_read : arch_of architecture line.options.tracks ≡ Ok arch
  pub begun : View
  pub written : begun.output ≡ output
  pub has_log : begun.has_log ≡ is_some line.log
  pub log : Option (Option (List ℕ))
  pub is_log : is_some log ≡ is_some line.log
  pub runs : RunsInput line.told log (empty_on (empty_service (device_of line.options arch)) (own_graph (device_of line.options arch))) begun input after outcome

-- private: the device of that architecture
abbrev pub IsDeviceOf : Options → List ℕ → Device → Type 0
IsDeviceOf options architecture device = (arch : Arch) × (arch_of architecture options.tracks ≡ Ok arch) × (device ≡ device_of options arch)

-- private: a service over that device, or one that does not begin
abbrev pub RunsOver : Option ℕ → Option (Option (List ℕ)) → Device → View → Option (List ℕ) → Option View → Outcome → Type 0
RunsOver told log device before input after outcome = RunsOpened told log (empty_on (empty_service device) (own_graph device)) before input after outcome

-- or one that does not begin
abbrev pub RunsThreaded : CommandLine → Option (List ℕ) → Option (List ℕ) → Option View → Outcome → Type 0
RunsThreaded line input output None outcome = outcome ≢ Done
RunsThreaded line input output (Some after) outcome = RunsThreads line input output after outcome

-- a run of words with workers
abbrev pub RunsWorkers : {E : Type 0} → Option (List ℕ) → Option (List ℕ) → Option View → Result Outcome E → Type 0
RunsWorkers input output devices (Ok outcome) = (line : CommandLine) × RunsThreaded line input output devices outcome
RunsWorkers input output devices (Err error) = ⊥

-- the run of a program: without workers there is the connection as it was left, with workers the
-- log and the output, if the service began
abbrev pub IsProgramRun : {E : Type 0} → Option (List ℕ) → Option (List ℕ) → Option View → Option View → Result Outcome E → Type 0
IsProgramRun input output (Some after) devices outcome = RunsAlone input output after outcome
IsProgramRun input output None devices outcome = RunsWorkers input output devices outcome

-- its end: the status is that of the run
abbrev pub IsProgramEnd : Option (List ℕ) → Option (List ℕ) → Option View → Option View → ℕ → Type 0
IsProgramEnd input output connection devices status = (outcome : Result Outcome (Unit {0})) × IsProgramRun input output connection devices outcome × (status ≡ run_status outcome)
