use Rattle.strip_place.proofs.Prelude.{◌≡◌, map, take, point_at}
use Rattle.strip_place.proofs.start.points_at.Given as goal

abbrev pub invariant-loop-site : goal.invariant-loop-site
invariant-loop-site l = l.points.items ≡ map (point_at l.spots) (take l.site-index l.sites)
