-- Private: a routing before its first iteration, and after it.
use Rattle.std.specs.Prelude.{◌≡◌}
use Rattle.job_state.specs.Prelude.{RoutingState, Basis, ArePlaced}
use Rattle.job_state.specs.declared.stage.Stage.{Stage}
use Rattle.job_state.specs.declared.stage.Stage.TheVariants.{Begun, Going}
use Rattle.job_state.specs.UnderWay.{GoesOn, begun_state}

-- the state of the routing
abbrev pub state_at : Basis → Stage → RoutingState
state_at basis (Begun begun) = begun_state basis begun.packed begun.places.items
state_at basis (Going routing) = routing

-- it is of that architecture and strip
abbrev pub IsOf : Basis → Stage → Type 0
IsOf basis (Begun begun) = (begun.packed.arch ≡ basis.arch) × ArePlaced basis.strip begun.packed begun.places.items
IsOf basis (Going routing) = GoesOn basis routing
