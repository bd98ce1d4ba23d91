-- Private: the limits of an iteration's numbers.
use Rattle.std.specs.Prelude.{ℕ, ◌<◌, ◌≤◌}
use Rattle.pathfinder.specs.Prelude.{MAX_NETS}
use Rattle.pathfinder.specs.declared.routing.TheConstants.{MAX_ITERATIONS}

-- the numbers of earlier iterations and of trees that use a node are within their limits
pub record MayCost (iterations held : ℕ) : Type 0 where
  pub few : iterations < MAX_ITERATIONS
  pub low : held ≤ MAX_NETS
