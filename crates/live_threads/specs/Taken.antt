-- What is taken from the ring of lines, and how a service ends.
use Rattle.std.specs.Prelude.{ℕ, ◌≡◌, ◌⊎◌, List, [], ◌∷◌, ◌++◌, map, Bool, true, false}
use Rattle.std.specs.List.{flat_map}
use Rattle.std.specs.declared.vec.Vec.{Vec}
use Rattle.live_threads.specs.Prelude.{SameConsumer, received, Consumer, physical_lines, kept_of, Event, Happens, View, Told, LiveState, are_at_rest, MachineState, EndsMachine, without_workers, Outcome, Done}
use Rattle.live_threads.specs.Serving.{HasStopped, IsCut, IsServed}

-- the lines of a text, each cut to the bytes that are kept of it
abbrev pub cut_lines : List ℕ → List (List ℕ)
cut_lines text = map kept_of (physical_lines text)

-- those of texts
abbrev pub lines_of : {A : Type 0} → List (Vec ℕ A) → List (List ℕ)
lines_of batches = flat_map (λ batch. cut_lines batch.items) batches

-- texts were taken from a ring, and this holds of their lines
pub record TakesLines {A G P : Type 0} (old new : Consumer (Vec ℕ A) G P) (holds : List (List ℕ) → Type 0) : Type 0 where
  pub ring : SameConsumer old new
  pub batches : List (Vec ℕ A)
  pub taken : received new ≡ received old ++ batches
  pub held : holds (lines_of batches)

-- each text that is open is refused, and that is told
pub record ClosesTexts (last : MachineState) (before after : View) : Type 0 where
  pub live : LiveState
  pub same : without_workers live ≡ last.live
  pub reply : List ℕ
  pub ends : EndsMachine live last.held reply
  pub happens : Happens before after (Told reply ∷ [])

-- or a beginning of it is told, or nothing
pub record CutsClosing (last : MachineState) (before after : View) : Type 0 where
  pub live : LiveState
  pub same : without_workers live ≡ last.live
  pub reply : List ℕ
  pub ends : EndsMachine live last.held reply
  pub events : List Event
  pub cut : IsCut (Told reply ∷ []) events
  pub happens : Happens before after events

abbrev pub StopsClosing : MachineState → View → View → Type 0
StopsClosing last before after = (after ≡ before) ⊎ CutsClosing last before after

-- nothing is left that is to be kept or told
abbrev pub IsDrained : MachineState → Type 0
IsDrained state = (state.log ≡ []) × (state.told ≡ [])

-- the end of a service whose input has ended
abbrev pub ClosesAs : Bool → MachineState → View → View → Type 0
ClosesAs true last before after = after ≡ before
ClosesAs false last before after = ClosesTexts last before after

-- all lines were served, no name waits any more, and all is kept and told
pub record IsServedToEnd (old : MachineState) (before : View) (lines : List (List ℕ)) (after : View) : Type 0 where
  pub last : MachineState
  pub mid : View
  pub served : IsServed old before lines last mid
  pub rests : are_at_rest last.held ≡ true
  pub drained : IsDrained last
  pub closes : ClosesAs mid.has_log last mid after

-- the service stopped before its input ended, or as it told what it tells last
abbrev pub StopsServing : MachineState → View → List (List ℕ) → View → Type 0
StopsServing old before lines after = HasStopped old before lines after ⊎ ((last : MachineState) × (mid : View) × IsServed old before lines last mid × StopsClosing last mid after)

abbrev pub EndsServing : MachineState → View → List (List ℕ) → View → Outcome → Type 0
EndsServing old before lines after Done = IsServedToEnd old before lines after
EndsServing old before lines after outcome = StopsServing old before lines after
