use Rattle.fabric_planes.proofs.Prelude.{◌+◌, ◌*◌, ◌≤◌, arith, get_or}
use Rattle.fabric_planes.proofs.Lowered.{by_four, at_index}
use Rattle.fabric_planes.proofs.side_bounds.least_of.Goals as goal

pub returns : goal.returns
returns c = λ side few.
    let lasts = c.args.lasts.now in
    let tracks = c.args.tracks in
    let track = c.args.track in
    by_four (λ side. c.min-3.result ≤ get_or lasts (side * tracks + track) 0)
    (at_index lasts (0 * tracks + track) track c.min-3.result (omega arith) (omega (arith, c.min.ensures, c.min-2.ensures, c.min-3.ensures)))
    (at_index lasts (1 * tracks + track) (tracks + track) c.min-3.result (omega arith) (omega (arith, c.min.ensures, c.min-2.ensures, c.min-3.ensures)))
    (at_index lasts (2 * tracks + track) (2 * tracks + track) c.min-3.result (omega arith) (omega (arith, c.min.ensures, c.min-2.ensures, c.min-3.ensures)))
    (at_index lasts (3 * tracks + track) (3 * tracks + track) c.min-3.result (omega arith) (omega (arith, c.min.ensures, c.min-2.ensures, c.min-3.ensures)))
    side few
