-- Private: what a queue holds.
use Rattle.std.specs.Prelude.{ℕ, ◌<◌}

-- A queue holds an entry with this cost and this key if both are less than `span`.
pub record CanHold (span cost key : ℕ) : Type 0 where
  pub cost_held : cost < span
  pub key_held : key < span
