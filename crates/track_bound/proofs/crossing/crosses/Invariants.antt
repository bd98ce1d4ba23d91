use Rattle.track_bound.proofs.Prelude.{◌≡◌, false, take, list_any, place_of, is_between}
use Rattle.track_bound.proofs.crossing.crosses.Given as goal

abbrev pub invariant-loop-reader : goal.invariant-loop-reader
invariant-loop-reader l = list_any (λ reader. is_between l.column l.from (place_of l.places reader).x) (take l.reader-index l.net.readers.now) ≡ false
