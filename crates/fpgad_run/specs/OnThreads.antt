-- A script that is served on threads: what is known before anything runs, and what is written.
use Rattle.std.specs.Prelude.{ℕ, ◌≡◌, Bool, true, false, List, Ok}
use Rattle.fpgad_run.specs.Prelude.{Arch, Parts, Threaded, heard_so_far, nothing_said, threaded_from, Head, Script, RunReplies, run_text, IsServedOnThreads}
use Rattle.fpgad_run.specs.declared.inputs.Architecture.{Architecture}
use Rattle.fpgad_run.specs.declared.options.Options.{Options}
use Rattle.fpgad_run.specs.Program.{Start, device_of, start_by}

-- what a script that is served on threads says: what the operator asks before all sessions, what
-- each name's session says, and what the operator asks after
abbrev pub said_in : Bool → List (List ℕ) → Threaded
said_in true lines = threaded_from 1 (heard_so_far nothing_said Head) lines
said_in false lines = threaded_from 1 (heard_so_far nothing_said Script) lines

abbrev pub threaded_start_of : ℕ → Architecture → List ℕ → Start Parts
threaded_start_of tracks architecture input = start_by said_in tracks architecture input

-- the bytes are the answers to the script on threads, section by section
pub record AreThreadedReplies (options : Options) (start : Start Parts) (output : List ℕ) : Type 0 where
  pub arch : Arch
  pub parts : Parts
  pub begins : start ≡ Ok (arch, parts)
  pub answered : RunReplies
  pub served : IsServedOnThreads (device_of options arch) parts answered
  pub output_is : output ≡ run_text answered
