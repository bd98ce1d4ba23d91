use Rattle.pinned_places.proofs.Prelude.{place_after}
use Rattle.pinned_places.proofs.Steps.{IsReplaced}
use Rattle.pinned_places.proofs.exchange.exchange.Given as goal

abbrev pub invariant-loop-place : goal.invariant-loop-place
invariant-loop-place l = IsReplaced (place_after l.home l.target) l.fn.places l.place-index l.places
