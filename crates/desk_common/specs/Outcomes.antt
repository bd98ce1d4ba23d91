-- How an errand ends.
use Rattle.std.specs.Prelude.{ℕ, ◌≡◌, ◌==◌, if◌then◌else◌, Result, Ok, Err, ⊤}
use Rattle.line_text.specs.declared.source.Failed.{Failed}
use Rattle.line_text.specs.declared.source.ReadError.{ReadError}
use Rattle.line_text.specs.declared.source.ReadError.TheVariants.{NoMemory as ReadNoMemory, Failed as ReadFailed}
use Rattle.desk_common.specs.declared.outcome.Outcome.{Outcome}
use Rattle.desk_common.specs.declared.paths.FileRole.{FileRole}
use Rattle.desk_common.specs.declared.outcome.Outcome.TheVariants.{DeviceRefused, Done, InputFailed, OutputFailed, FileFailed, LayoutRefused, LinesRefused, NoMemory, OtherCircuit}

-- the status that the program ends with
abbrev pub status_of : Outcome → ℕ
status_of Done = 0
status_of InputFailed = 1
status_of OutputFailed = 1
status_of (FileFailed role) = 1
status_of (LinesRefused lines) = 1
status_of (LayoutRefused fault) = 1
status_of OtherCircuit = 1
status_of DeviceRefused = 2
status_of NoMemory = 4
status_of refused = 3

-- how an errand ends whose writing ended so
abbrev pub written_so : Result (Unit {0}) Failed → Outcome
written_so (Ok u) = Done
written_so (Err failed) = OutputFailed

-- how an errand ends whose input could not be read
abbrev pub read_so : ReadError → Outcome
read_so ReadNoMemory = NoMemory
read_so ReadFailed = InputFailed

-- how an errand ends whose file with that role could not be read or written: memory ran out, or
-- this is known of the file
abbrev pub IsFileFailure : FileRole → Type 0 → Outcome → Type 0
IsFileFailure role known NoMemory = ⊤
IsFileFailure role known (FileFailed failed) = (failed ≡ role) × known
IsFileFailure role known other = ⊥

-- how an errand ends that was done, or failed so
abbrev pub done_so : Result (Unit {0}) Outcome → Outcome
done_so (Ok u) = Done
done_so (Err outcome) = outcome

-- how an errand ends that was done while that many lines were refused, or failed so
abbrev pub lines_so : Result ℕ Outcome → Outcome
lines_so (Ok count) = if count == 0 then Done else LinesRefused count
lines_so (Err outcome) = outcome
