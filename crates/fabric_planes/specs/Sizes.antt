-- The limits of the sizes on which places depend.
use Rattle.std.specs.Prelude.{ℕ, ◌≤◌}

-- the sizes are within their limits
pub record IsSmall (width rows pins tracks : ℕ) : Type 0 where
  pub few_columns : width ≤ 256
  pub few_rows : rows ≤ 64
  pub few_pins : pins ≤ 153
  pub few_tracks : tracks ≤ 64
