-- The end of a program, from its run.
use Rattle.live_threads.proofs.Prelude.{◌≡◌, ◌⊎◌, ℕ, List, Option, Some, None, Ok, Err, inl, inr, false, refl, arith, View, CommandLine, Outcome, NoMemory, RunsLine, status_of, IsProgramEnd, IsProgramRun, run_status}
use Rattle.std.proofs.Common.{Result, IfOk}

-- words that can't be read: nothing was done over the connection
pub unread : (input output : Option (List ℕ)) (view : View) (devices : Option View) (status : ℕ) → view.remaining ≡ input → view.output ≡ output → view.has_log ≡ false → (status ≡ 2) ⊎ (status ≡ status_of NoMemory) → IsProgramEnd input output (Some view) devices status
unread input output view devices status remaining written none (inl is) = (Err tt, record { before = view; remaining = remaining; written = written; has_log = none; runs = refl }, is)
unread input output view devices status remaining written none (inr is) = (Ok NoMemory, record { before = view; remaining = remaining; written = written; has_log = none; runs = inl (refl, refl) }, is)

-- the outcome of a run without clap's error
pub ends : {E : Type 0} (input output : Option (List ℕ)) (connection devices : Option View) (outcome : Result Outcome E) (status : ℕ) → IsProgramRun input output connection devices outcome → status ≡ run_status outcome → IsProgramEnd input output connection devices status
ends input output (Some after) devices (Ok outcome) status run is = (Ok outcome, record { before = run.before; remaining = run.remaining; written = run.written; has_log = run.has_log; runs = run.runs }, is)
ends input output (Some after) devices (Err error) status run is = (Err tt, record { before = run.before; remaining = run.remaining; written = run.written; has_log = run.has_log; runs = run.runs }, is)
ends input output None devices (Ok outcome) status run is = (Ok outcome, run, is)
ends input output None devices (Err error) status run is = absurd run

-- words that are refused, or for which memory ran out: nothing was done over the connection
pub refused : {E : Type 0} (input output : Option (List ℕ)) (view : View) (devices : Option View) (outcome : Result Outcome E) → view.remaining ≡ input → view.output ≡ output → view.has_log ≡ false → IfOk outcome (λ it. it ≡ NoMemory) → IsProgramRun input output (Some view) devices outcome
refused input output view devices outcome remaining written none is = grind arith

-- a command line that runs without workers
pub alone : {E : Type 0} (input output : Option (List ℕ)) (before after : View) (devices : Option View) (line : CommandLine) (outcome : Outcome) → before.remaining ≡ input → before.output ≡ output → before.has_log ≡ false → RunsLine line before after outcome → IsProgramRun {E = E} input output (Some after) devices (Ok outcome)
alone input output before after devices line outcome remaining written none runs = record { before = before; remaining = remaining; written = written; has_log = none; runs = inr (line, runs) }
