use Rattle.fabric_planes.proofs.Prelude.{◌∙◌, ℕ, ap, refl, subst, arith, IsPrice}
use Rattle.fabric_planes.proofs.Found.{place_low}
use Rattle.fabric_planes.proofs.Strips.{track_low}
use Rattle.fabric_planes.proofs.price_table.CostedPlanes.price_wire.Goals as goal

pub wire_number-requires-clause-place : goal.wire_number-requires-clause-place
wire_number-requires-clause-place g c =
    let (number, on) = c.requires.there in
    place_low c.laws.ensures.basis c.args.place number on.wire

pub wire_number-requires-clause-track : goal.wire_number-requires-clause-track
wire_number-requires-clause-track g c =
    let (number, on) = c.requires.there in
    let strip = c.args.self.now.strip in
    omega (arith, track_low c.laws.ensures.basis number on.wire.wire, on.on_track, strip.laid.shape.tracks, strip.layout.now.shape.small.few_tracks)

pub returns : goal.returns
returns g c = λ number on.
    let cost = g.C.NodeCosts.costs c.args.self.now.costs.now in
    record {
      spot = c.spot_at-spot.result;
      is_spot = c.spot_at-spot.ensures number on;
      price = c.price_for-price.result;
      is_price = subst (λ (v : ℕ). IsPrice v c.price_for-price.result) (c.cost.ensures ∙ ap cost (c.wire_number.ensures number on.wire on.on_track)) c.price_for-price.ensures;
      set = refl;
      set_by_place = refl;
    }
