use Rattle.plane_search.proofs.Prelude.{arith, inr}
use Rattle.plane_search.proofs.walk.fitting_cost.Goals as goal

pub overflow_add-cost : goal.overflow_add-cost
overflow_add-cost g c =
    let plane = c.tracks-tracks.ensures.lawful.planes c.args.aim.now.track c.args.aim.now.on in
    omega (arith, c.cost.ensures, plane.lawful.cost_to c.args.place (omega (arith, plane.count, c.requires.within)), c.requires.cheap, c.args.aim.now.can.few, g.met.C.Cell.fits, g.met.C.Cell.last_fits)

pub returns-then-is_below-clause-none : goal.returns-then-is_below-clause-none
returns-then-is_below-clause-none g c =
    inr (λ rest leads. omega (arith, c.cost.ensures, c.if-is_below.ensures, c.args.aim.now.can.pruned.least c.args.place c.requires.within (omega arith) rest leads))
