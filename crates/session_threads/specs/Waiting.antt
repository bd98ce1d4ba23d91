-- Private: what a session that waits finds under the lock.
use Rattle.std.specs.Prelude.{ℕ, ◌≡◌, Bool, false, Option, Some, None, is_some, if◌then◌else◌}
use Rattle.session_threads.specs.Prelude.{Status, live_of, CoreState, is_idle_in, ready_number, Enters, TranscriptState, with_no_memory}
use Rattle.session_threads.specs.declared.waiting.Found.{Found}
use Rattle.session_threads.specs.declared.waiting.Found.TheVariants.{Ended, GivenUp, Goes}

-- no step of the tenancy will follow; or there is a step to take whose number is nobody's; or else
-- a step is out, or its number was pushed
abbrev pub found_in : CoreState → ℕ → Found
found_in core id = if is_idle_in (live_of core.service.histories id) then Ended else if is_some (ready_number core id) then GivenUp else Goes

-- if no step will follow, a status is entered; if there is a step to take whose number is nobody's,
-- the wait is answered that memory ran out; else it goes on
abbrev pub WaitsAs : Found → TranscriptState → CoreState → Option Bool → CoreState → TranscriptState → Type 0
WaitsAs Ended old before None after new = ⊥
WaitsAs Ended old before (Some has) after new = Enters old before Status has after new
WaitsAs GivenUp old before answer after new = (answer ≡ Some false) × (after ≡ before) × (new ≡ with_no_memory old)
WaitsAs Goes old before answer after new = (answer ≡ None) × (after ≡ before) × (new ≡ old)

abbrev pub Waits : TranscriptState → CoreState → Option Bool → CoreState → TranscriptState → Type 0
Waits old before answer after new = WaitsAs (found_in before old.id) old before answer after new
