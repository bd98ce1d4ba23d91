use Rattle.fabric_planes.proofs.Prelude.{◌+◌, ◌*◌, ◌≤◌, length, arith}
use Rattle.fabric_planes.proofs.BoundedSides.{row_fits}
use Rattle.fabric_planes.proofs.side_bounds.WirePrices.bound_side.Goals as goal

pub slice_bounds-bound_wires-end : goal.slice_bounds-bound_wires-end
slice_bounds-bound_wires-end c =
    let tracks = c.args.self.now.tracks in
    let fits : c.args.place * tracks + tracks ≤ length c.args.self.now.by_place.now = omega (arith, row_fits c.args.place c.args.self.now.places tracks (omega (arith, c.if-first-by_place.true, c.args.self.now.long)), c.args.self.now.long) in
    omega (arith, fits)
