-- What a service with workers has kept and told, at each moment.
use Rattle.std.specs.Prelude.{ℕ, ◌≡◌, List, ◌++◌}
use Rattle.std.specs.List.{AllByRecursion}
use Rattle.live_promises.specs.Prelude.{Event, kept_in, told_in, LiveState, IsDay, IsServedTurn, Turn, log_of, told_of}

-- what was told is a beginning of what those turns tell, and they were kept before; each turn is a
-- line that came and was served as itself, or as what takes its place, or a worker's line, or an
-- item that was lost
pub record IsBackedByTurns (begun : LiveState) (first : ℕ) (events : List Event) : Type 0 where
  pub turns : List Turn
  pub new : LiveState
  pub next : ℕ
  pub day : IsDay begun first turns new next
  pub served : AllByRecursion IsServedTurn turns
  pub more : List ℕ
  pub kept : kept_in events ≡ log_of turns ++ more
  pub unsaid : List ℕ
  pub told : told_of turns ≡ told_in events ++ unsaid
