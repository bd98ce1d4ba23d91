use Rattle.plane_search.proofs.Prelude.{arith}
use Rattle.plane_search.proofs.Marking.{marked}
use Rattle.plane_search.proofs.marks.Marks.enter.Goals as goal

pub returns : goal.returns
returns g c =
    let old = c.self.inside in
    rw (← c.self.view_is) (marked g.C.Cell.number old.top old.cells.items c.args.place c.args.cost _ (omega (arith, c.requires.cost, c.self.invariant.room)) (omega arith))
