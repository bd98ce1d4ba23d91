-- Private: how a run goes on from its input, and how it ends with its replies.
use Rattle.std.specs.Prelude.{ℕ, ◌≡◌, ◌≢◌, List, take, Bool, true, Result, Ok, Err, Option, IfSome, IsOk, ⊤}
use Rattle.std.specs.declared.vec.Vec.{Vec}
use Rattle.std.specs.declared.alloc.Global.{Global}
use Rattle.std.specs.Io.KnownBytes.{Appends}
use Rattle.fpgad_run.specs.Prelude.{Failed, RunReplies, run_text}
use Rattle.fpgad_run.specs.declared.inputs.Architecture.{Architecture}
use Rattle.fpgad_run.specs.declared.inputs.Architecture.TheVariants.{Unreadable}
use Rattle.fpgad_run.specs.declared.outcome.Outcome.{Outcome}
use Rattle.fpgad_run.specs.declared.outcome.Outcome.TheVariants.{Done, ArchUnreadable, ArchRefused, InputFailed, OutputFailed, ScriptFault, NoMemory, NotSettled}
use Rattle.fpgad_run.specs.Program.{Start}

-- the input, or why it is not read
abbrev pub IsInput : Architecture → Option (List ℕ) → Result (Vec ℕ Global) Outcome → Bool → Type 0
IsInput architecture remaining (Ok input) failed = (architecture ≢ Unreadable) × IfSome remaining (λ bytes. input.items ≡ bytes)
IsInput architecture remaining (Err ArchUnreadable) failed = architecture ≡ Unreadable
IsInput architecture remaining (Err InputFailed) failed = (architecture ≢ Unreadable) × (failed ≡ true)
IsInput architecture remaining (Err NoMemory) failed = architecture ≢ Unreadable
IsInput architecture remaining (Err outcome) failed = ⊥

-- a script with that start may be answered so, with a text of that kind
abbrev pub Replies : {A : Type 0} → (List ℕ → Type 0) → Start A → Result RunReplies Outcome → Type 0
Replies IsReply start (Ok replies) = IsReply (run_text replies)
Replies IsReply start (Err ArchUnreadable) = start ≡ Err ArchUnreadable
Replies IsReply start (Err (ArchRefused fault)) = start ≡ Err (ArchRefused fault)
Replies IsReply start (Err (ScriptFault line)) = start ≡ Err (ScriptFault line)
Replies IsReply start (Err NoMemory) = ⊤
Replies IsReply start (Err NotSettled) = IsOk start
Replies IsReply start (Err outcome) = ⊥

-- the answers are written, or a beginning of them, or nothing if there are none
abbrev pub EndsWith : Result RunReplies Outcome → Outcome → Option (List ℕ) → Option (List ℕ) → Bool → Type 0
EndsWith (Ok replies) Done old new failed = Appends old new (run_text replies)
EndsWith (Ok replies) OutputFailed old new failed = ((n : ℕ) × Appends old new (take n (run_text replies))) × (failed ≡ true)
EndsWith (Ok replies) outcome old new failed = ⊥
EndsWith (Err refusal) outcome old new failed = (outcome ≡ refusal) × (new ≡ old)

-- how a run ends whose writing ended so
abbrev pub ending : Result (Unit {0}) Failed → Outcome
ending (Ok u) = Done
ending (Err failed) = OutputFailed
