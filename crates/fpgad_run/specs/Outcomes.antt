-- How a run ends: its status, and its message for standard error, without the line's end.
use Rattle.std.specs.Prelude.{ℕ, List, [], ◌++◌, codes, decimal}
use Rattle.fpgad_run.specs.Prelude.{printed_fault, ArchFault, TextError, Fault, NoMemory as NoTextMemory, Unserved, NotSettled as Unsettled}
use Rattle.script_threads.specs.declared.unserved.Unserved.TheVariants.{NoMemory as UnservedMemory}
use Rattle.fpgad_run.specs.declared.outcome.Outcome.{Outcome}
use Rattle.fpgad_run.specs.declared.outcome.Outcome.TheVariants.{Done, ArchUnreadable, ArchRefused, InputFailed, OutputFailed, ScriptFault, NoMemory, NotSettled}

abbrev pub status_of : Outcome → ℕ
status_of Done = 0
status_of ArchUnreadable = 1
status_of (ArchRefused fault) = 1
status_of InputFailed = 1
status_of OutputFailed = 1
status_of (ScriptFault line) = 3
status_of NoMemory = 4
status_of NotSettled = 5

abbrev pub message_of : Outcome → List ℕ
message_of Done = []
message_of ArchUnreadable = codes "arch: unreadable"
message_of (ArchRefused fault) = codes "arch: " ++ printed_fault fault
message_of InputFailed = codes "input: failed"
message_of OutputFailed = codes "output: failed"
message_of (ScriptFault line) = codes "script: line " ++ decimal line
message_of NoMemory = codes "memory"
message_of NotSettled = codes "settle"

-- how a run ends that has no architecture, no script, or no answers
abbrev pub refused_arch : TextError ArchFault → Outcome
refused_arch (Fault fault) = ArchRefused fault
refused_arch NoTextMemory = NoMemory

abbrev pub refused_script : TextError ℕ → Outcome
refused_script (Fault line) = ScriptFault line
refused_script NoTextMemory = NoMemory

abbrev pub outcome_of_unserved : Unserved → Outcome
outcome_of_unserved UnservedMemory = NoMemory
outcome_of_unserved (Unsettled cause) = NotSettled
