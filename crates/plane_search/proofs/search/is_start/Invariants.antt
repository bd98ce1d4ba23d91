use Rattle.plane_search.proofs.Prelude.{◌≢◌, ℕ, ◌<◌, get_or, places_of}
use Rattle.plane_search.proofs.search.is_start.Given as goal

abbrev pub invariant-loop-start : goal.invariant-loop-start
invariant-loop-start l = (k : ℕ) → k < l.start-index → get_or (places_of l.starts) k 0 ≢ l.place
