use Rattle.fabric_planes.proofs.Prelude.{by_side}
use Rattle.fabric_planes.proofs.BoundedSides.{no_side, one_side_more}
use Rattle.fabric_planes.proofs.side_bounds.WirePrices.bound_lasts.Goals as goal

pub returns : goal.returns
returns c =
    let tracks = c.args.self.now.tracks in
    let sides = c.args.sides.now in
    let by_place = c.args.self.now.by_place.now in
    let pins = by_side c.args.pins in
    let none = no_side tracks sides by_place pins c.args.lasts.now c.requires.long c.requires.dear in
    let one = one_side_more tracks 0 sides by_place pins _ _ none c.bound_side.ensures in
    let two = one_side_more tracks 1 sides by_place pins _ _ one c.bound_side-2.ensures in
    let three = one_side_more tracks 2 sides by_place pins _ _ two c.bound_side-3.ensures in
    one_side_more tracks 3 sides by_place pins _ _ three c.bound_side-4.ensures
