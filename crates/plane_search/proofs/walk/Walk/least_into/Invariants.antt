use Rattle.plane_search.proofs.Prelude.{places_of, IsBetween}
use Rattle.plane_search.proofs.Starting.{AreDearStarts}
use Rattle.plane_search.proofs.walk.Walk.least_into.Given as goal

abbrev pub invariant-loop-start : goal.invariant-loop-start
invariant-loop-start g l =
    let f = g.P.Planes.family l.aim.planes.now in
    IsBetween (f.plane l.aim.track) g.C.Cell.SPAN f.exit l.aim.best l.self.marks × AreDearStarts (f.plane l.aim.track) f.exit l.aim.best (places_of l.aim.starts.now) l.start-index
