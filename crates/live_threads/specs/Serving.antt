-- What a service with workers takes, keeps and tells.
use Rattle.std.specs.Prelude.{ℕ, ◌≡◌, ◌⊎◌, List, [], ◌∷◌, ◌++◌, take}
use Rattle.std.specs.List.{flat_map}
use Rattle.live_threads.specs.Prelude.{Event, Happens, View, Kept, Told, lines_in, Call, MachineState, Run, Drain}

-- what a call drained is kept, and then told
abbrev pub events_in : Call → List Event
events_in (Drain log told) = Kept log ∷ Told told ∷ []
events_in call = []

abbrev pub events_of : List Call → List Event
events_of calls = flat_map events_in calls

-- Calls were made of a machine, and those lines came. All that was drained was kept and then told,
-- and nothing else was.
pub record IsServed (old : MachineState) (before : View) (lines : List (List ℕ)) (new : MachineState) (after : View) : Type 0 where
  pub calls : List Call
  pub run : Run old calls new
  pub heard : lines_in calls ≡ lines
  pub happens : Happens before after (events_of calls)

-- an event of which a device took a beginning
abbrev pub IsPart : Event → Event → Type 0
IsPart (Kept bytes) part = (count : ℕ) × (part ≡ Kept (take count bytes))
IsPart (Told bytes) part = (count : ℕ) × (part ≡ Told (take count bytes))

-- some events, and then nothing, or a part of the next one
abbrev pub EndsIn : List Event → List Event → List Event → Type 0
EndsIn done [] events = events ≡ done
EndsIn done (event ∷ more) events = (events ≡ done) ⊎ ((part : Event) × IsPart event part × (events ≡ done ++ part ∷ []))

-- of these events the first ones happened
pub record IsCut (whole events : List Event) : Type 0 where
  pub done : List Event
  pub more : List Event
  pub whole_is : whole ≡ done ++ more
  pub ends : EndsIn done more events

-- The service stopped: calls were made of a machine, some of those lines came, and the first events
-- of those calls happened.
pub record HasStopped (old : MachineState) (before : View) (lines : List (List ℕ)) (after : View) : Type 0 where
  pub calls : List Call
  pub new : MachineState
  pub run : Run old calls new
  pub unheard : List (List ℕ)
  pub heard : lines ≡ lines_in calls ++ unheard
  pub events : List Event
  pub cut : IsCut (events_of calls) events
  pub happens : Happens before after events

-- private: the first of these lines were served, and those are left
pub record ServesSome (all left : List (List ℕ)) (old : MachineState) (before : View) (new : MachineState) (after : View) : Type 0 where
  pub lines : List (List ℕ)
  pub cut : all ≡ lines ++ left
  pub served : IsServed old before lines new after
