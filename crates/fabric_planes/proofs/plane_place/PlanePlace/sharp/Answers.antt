use Rattle.fabric_planes.proofs.Prelude.{[], ◌∷◌, arith, slice_index}
use Rattle.fabric_planes.proofs.WireBounds.{sharp_low, far_aside, fars_near, least_sum}
use Rattle.fabric_planes.proofs.plane_place.PlanePlace.sharp.Goals as goal

pub returns : goal.returns
returns g c = λ number sum w n by.
    let self = c.args.self.now.planes.now in
    let basis = g.G.StripGraph.basis self.strip.graph.now in
    let place = c.args.self.now.place in
    let tracks = self.strip.laid.shape.tracks in
    let top = slice_index self.to_top.now place in
    let bottom = slice_index self.to_bottom.now place in
    let right = slice_index self.to_right.now place in
    let left = slice_index self.to_left.now place in
    let r = c.min-3.result in
    let m = c.min.ensures in
    let m2 = c.min-2.ensures in
    let m3 = c.min-3.ensures in
    sharp_low basis self.sink self.pins.now self.lasts.now (λ side. slice_index (top ∷ bottom ∷ right ∷ left ∷ []) side) c.args.self.now.track number sum r
    (far_aside basis self.sink self.aheads.now place number self.are_aheads c.requires.far w)
    (fars_near basis self.sink self.to_top.now self.to_bottom.now self.to_right.now self.to_left.now place number self.top_far self.bottom_far self.right_far self.left_far w)
    (least_sum basis self.sink self.lasts.now self.strip.layout.now.shape.tracks c.args.self.now.track top bottom right left r tracks
    (omega (arith, m, m2, m3)) (omega (arith, m, m2, m3)) (omega (arith, m, m2, m3)) (omega (arith, m, m2, m3)))
    n by
