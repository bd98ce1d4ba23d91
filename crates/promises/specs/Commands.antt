-- What a command line makes of a run, and the status of the program.
use Rattle.std.specs.Prelude.{ℕ, ◌≡◌, ◌≤◌, ◌≢◌, ◌⊎◌, List, Option, Some, None, Result, Ok, Err}
use Rattle.std.specs.Borrow.{Bor}
use Rattle.promises.specs.Prelude.{CommandLine, Outcome, NoMemory, Architecture, InScript, RunsOnThreads, status_of, Writes}
use Rattle.promises.specs.Promises.{EndsAsDecided}

-- the architecture is at the script's head exactly if the command line names no file
abbrev pub IsGiven : Option (Bor (List ℕ)) → Architecture → Type 0
IsGiven None architecture = architecture ≡ InScript
IsGiven (Some path) architecture = architecture ≢ InScript

-- a run with the numbers of the command line, and the architecture of its file
abbrev pub Runs : CommandLine → Option (List ℕ) → Outcome → Option (List ℕ) → Option (List ℕ) → Type 0
Runs line input outcome old new = (architecture : Architecture) × IsGiven line.arch architecture × EndsAsDecided line.options architecture input outcome
    × (line.options.workers ≡ 0 → Writes line.options architecture input outcome old new)
    × (1 ≤ line.options.workers → RunsOnThreads line.options architecture input outcome old new)

-- words that are refused write nothing; others give a command line that runs, unless memory runs
-- out
abbrev pub RunsWords : {E : Type 0} → Option (List ℕ) → Result Outcome E → Option (List ℕ) → Option (List ℕ) → Type 0
RunsWords input (Err error) old new = new ≡ old
RunsWords input (Ok outcome) old new = ((outcome ≡ NoMemory) × (new ≡ old)) ⊎ ((line : CommandLine) × Runs line input outcome old new)

-- The status is 2 if the words are refused, and 4 if memory runs out before the run; then nothing
-- is written. Else it is that of how the run ended. So with status 0 the replies are written.
abbrev pub Exits : Option (List ℕ) → ℕ → Option (List ℕ) → Option (List ℕ) → Type 0
Exits input status old new = ((status ≡ 2) × (new ≡ old)) ⊎ (((status ≡ 4) × (new ≡ old))
    ⊎ ((outcome : Outcome) × (status ≡ status_of outcome) × ((line : CommandLine) × Runs line input outcome old new)))
