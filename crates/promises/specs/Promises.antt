-- What the clauses of `serve` are made of, beside the definitions that they name.
use Rattle.std.specs.Prelude.{ℕ, ◌≡◌, ◌≢◌, ◌≤◌, List, Option, IfSome}
use Rattle.promises.specs.Prelude.{Device, Call, Run, ServiceState, empty_service, Architecture, Options, Outcome, NotSettled, threaded_start_of, Decides, start_of}

-- the run ends as the architecture and the script decide. Without workers no session disagrees with
-- its journal
abbrev pub EndsAsDecided : Options → Architecture → Option (List ℕ) → Outcome → Type 0
EndsAsDecided options architecture input outcome = (options.workers ≡ 0 → (outcome ≢ NotSettled) × IfSome input (λ text. Decides (start_of options.tracks architecture text) outcome))
    × (1 ≤ options.workers → IfSome input (λ text. Decides (threaded_start_of options.tracks architecture text) outcome))

-- it holds of every list of calls that the core of a device can be asked, from the empty device on,
-- and of the state after them
abbrev pub OfEachRun : (Device → List Call → ServiceState → Type 0) → Type 0
OfEachRun Holds = (device : Device) (calls : List Call) (state : ServiceState) → Run (empty_service device) calls state → Holds device calls state
