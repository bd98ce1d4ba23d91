-- Lines of the operator, one after another.
use Rattle.std.specs.Prelude.{ℕ, ◌≡◌, List, [], ◌∷◌, ◌++◌, length}
use Rattle.script_threads.specs.Prelude.{Basis, Call, Run, ServiceState, OperatorLine, HeldList, give_backs, IsServed, Stage}

-- private: a stage from its parts
abbrev pub stage : Basis → List (List ℕ) → HeldList → ServiceState → Stage
stage graph names jobs service = record { names = names; jobs = jobs; service = service; graph = graph }

-- each line is answered; these are all calls that the lines make, and this is their whole text
abbrev pub AreServed : Stage → List (OperatorLine (List ℕ)) → List Call → List ℕ → Stage → Type 0
AreServed old [] calls text new = (calls ≡ []) × (text ≡ []) × (new ≡ old)
AreServed old (line ∷ lines) calls text new =
    (first_calls : List Call) × (first : List ℕ) × (mid : Stage) × (more : List Call) × (rest : List ℕ)
    × IsServed old line first_calls first mid × AreServed mid lines more rest new × (calls ≡ first_calls ++ more) × (text ≡ first ++ rest)

-- the calls of lines, and then of giving back the jobs that are held at their end
abbrev pub with_give_backs : List Call → Stage → List Call
with_give_backs calls last = calls ++ give_backs last.jobs

-- the lines are answered over that graph, with no jobs held before
pub record Serves (graph : Basis) (names : List (List ℕ)) (service : ServiceState) (lines : List (OperatorLine (List ℕ))) (text : List ℕ) (new_names : List (List ℕ)) (new_service : ServiceState) : Type 0 where
  pub calls : List Call
  pub last : Stage
  pub served : AreServed (record { names = names; jobs = []; service = service; graph = graph }) lines calls text last
  pub names_are : last.names ≡ new_names
  pub given_back : Run last.service (give_backs last.jobs) new_service

-- private: and the lines' text follows the reply so far
pub record Replies (graph : Basis) (names : List (List ℕ)) (service : ServiceState) (lines : List (OperatorLine (List ℕ))) (before after : List ℕ) (new_names : List (List ℕ)) (new_service : ServiceState) : Type 0 where
  pub text : List ℕ
  pub serves : Serves graph names service lines text new_names new_service
  pub reply : after ≡ before ++ text

-- private: so do lines that are served with jobs held
pub record RepliesEach (old : Stage) (lines : List (OperatorLine (List ℕ))) (before after : List ℕ) (new : Stage) : Type 0 where
  pub calls : List Call
  pub text : List ℕ
  pub served : AreServed old lines calls text new
  pub reply : after ≡ before ++ text
  pub even : length new.names ≡ length new.service.histories
