-- Two tenancies with strips of one width and equal events got equal replies.
use Rattle.service_core.proofs.Prelude.{◌≡◌, ℕ, List, refl, arith, Device, History, ServiceState, empty_service, strip_on, Call, Run, own_events, AreAlike, AreToldTheSame, HaveSameStrip}
use Rattle.service_core.proofs.Alone.{each_alone}

same_strip : (device other : Device) (h g : History) → AreAlike device other h g → strip_on device h.strip.width ≡ strip_on other g.strip.width
same_strip device other h g alike = rw (alike.arch, alike.rows, alike.width) refl

pub told_the_same : (device other : Device) (calls other_calls : List Call) (state other_state : ServiceState) (id other_id : ℕ) → Run (empty_service device) calls state → Run (empty_service other) other_calls other_state →
    HaveSameStrip device state id other other_state other_id → own_events id calls ≡ own_events other_id other_calls → AreToldTheSame state id calls other_state other_id other_calls
told_the_same device other calls other_calls state other_state id other_id run_one run_other alike asked = grind (arith, each_alone device calls state run_one id, each_alone other other_calls other_state run_other other_id)
