-- How a service with workers begins and ends.
use Rattle.std.specs.Prelude.{ℕ, ◌≡◌, ◌≢◌, ◌⊎◌, ⊤, List, [], ◌∷◌, take, Option, Some, None}
use Rattle.std.specs.List.{flat_map}
use Rattle.live_threads.specs.Prelude.{Happens, View, Kept, Basis, ServiceState, LiveState, begins_on, kept_lines, MachineState, begins_with, without_workers, Outcome, Done}
use Rattle.live_threads.specs.declared.letters.InputEnd.{InputEnd}
use Rattle.live_threads.specs.declared.letters.InputEnd.TheVariants.{Done as InputDone}
use Rattle.live_threads.specs.Fed.{AreFirst}
use Rattle.live_threads.specs.Replays.{Replays, StopsReplay, put_line}
use Rattle.live_threads.specs.Taken.{EndsServing}

-- a service begins without a line, or goes on where its log leads, after the later replies were
-- written; those lines are to be kept
abbrev pub BeginsAt : Option ℕ → Option (Option (List ℕ)) → LiveState → View → LiveState → ℕ → List ℕ → View → Type 0
BeginsAt told None empty before begun first put after = (begun ≡ empty) × (first ≡ 1) × (put ≡ []) × (after ≡ before)
BeginsAt told (Some log) empty before begun first put after = Replays told empty log before begun first put after

-- before the first line that comes nothing else is kept
abbrev pub IsResumed : List ℕ → View → View → Type 0
IsResumed [] before mid = mid ≡ before
IsResumed (byte ∷ put) before mid = Happens before mid (Kept (byte ∷ put) ∷ [])

-- if a service does not begin, its log may have taken a beginning of lines that put jobs, after the
-- later replies were written
abbrev pub PutsSome : View → View → Type 0
PutsSome mid after = (after ≡ mid) ⊎ ((jobs : List ℕ) × (count : ℕ) × Happens mid after (Kept (take count (flat_map put_line jobs)) ∷ []))

abbrev pub StopsResuming : Option ℕ → Option (Option (List ℕ)) → LiveState → View → View → Type 0
StopsResuming told None empty before after = after ≡ before
StopsResuming told (Some log) empty before after = (mid : View) × StopsReplay told empty log before mid × PutsSome mid after

-- a service served those lines, and ended so
pub record Serves (told : Option ℕ) (log : Option (Option (List ℕ))) (empty : LiveState) (before : View) (lines : List (List ℕ)) (after : View) (outcome : Outcome) : Type 0 where
  pub begun : LiveState
  pub first : ℕ
  pub put : List ℕ
  pub retold : View
  pub begins : BeginsAt told log empty before begun first put retold
  pub mid : View
  pub resumed : IsResumed put retold mid
  pub ends : EndsServing (begins_with begun first) mid lines after outcome

-- or it did not begin
abbrev pub RunsService : Option ℕ → Option (Option (List ℕ)) → LiveState → View → List (List ℕ) → View → Outcome → Type 0
RunsService told log empty before lines after outcome = ((outcome ≢ Done) × StopsResuming told log empty before after) ⊎ Serves told log empty before lines after outcome

-- private: a machine that goes on where a log leads, and what was kept before
pub record Resumes (told : Option ℕ) (log : Option (Option (List ℕ))) (empty : LiveState) (machine : MachineState) (before mid : View) : Type 0 where
  pub begun : LiveState
  pub first : ℕ
  pub put : List ℕ
  pub retold : View
  pub begins : BeginsAt told log empty before begun first put retold
  pub machine_is : machine ≡ begins_with begun first
  pub resumed : IsResumed put retold mid

-- the lines are the first ones of the input, with `Done` all of them
abbrev pub ServesInput : Option (List ℕ) → List (List ℕ) → Outcome → Type 0
ServesInput None lines outcome = ⊤
ServesInput (Some bytes) lines Done = lines ≡ kept_lines bytes
ServesInput (Some bytes) lines outcome = AreFirst (kept_lines bytes) lines

-- a service over an input
pub record RunsInput (told : Option ℕ) (log : Option (Option (List ℕ))) (empty : LiveState) (before : View) (input : Option (List ℕ)) (after : View) (outcome : Outcome) : Type 0 where
  pub lines : List (List ℕ)
  pub all : ServesInput input lines outcome
  pub runs : RunsService told log empty before lines after outcome

-- private: the live service over a core that has admitted no tenancy
abbrev pub empty_on : ServiceState → Basis → LiveState
empty_on service graph = without_workers (begins_on service graph)

-- private: a service over an input, or one that does not begin
abbrev pub RunsOpened : Option ℕ → Option (Option (List ℕ)) → LiveState → View → Option (List ℕ) → Option View → Outcome → Type 0
RunsOpened told log empty before input None outcome = outcome ≢ Done
RunsOpened told log empty before input (Some after) outcome = RunsInput told log empty before input after outcome

-- private: the service is done, the input was read to its end, and all that was put into the ring
-- was taken
abbrev pub IsWhole : {T : Type 0} → List T → List T → Option InputEnd → Outcome → Type 0
IsWhole put taken end outcome = (taken ≡ put) × (end ≡ Some InputDone) × (outcome ≡ Done)
