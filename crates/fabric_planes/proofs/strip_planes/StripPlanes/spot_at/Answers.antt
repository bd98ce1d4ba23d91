use Rattle.fabric_planes.proofs.Prelude.{◌≡◌, ◌∙◌, ℕ, ◌+◌, ◌*◌, ◌<◌, ◌≤◌, ◌^◌, sym, ap, arith, mul-le, graph_of, place_of, place_count}
use Rattle.fabric_planes.proofs.Found.{place_low}
use Rattle.fabric_planes.proofs.Priced.{spot_low, by_place_low}
use Rattle.fabric_planes.proofs.Strips.{places_few, track_low}
use Rattle.fabric_planes.proofs.strip_planes.StripPlanes.spot_at.Goals as goal

pub overflow_mul-result : goal.overflow_mul-result
overflow_mul-result g c =
    let (number, on) = c.requires in
    let few : c.args.track < 64 = omega (arith, track_low c.laws.ensures.basis number on.wire.wire, on.on_track, c.args.self.now.laid.shape.tracks, c.args.self.now.layout.now.shape.small.few_tracks) in
    omega (arith, mul-le c.args.track c.places.result 64 165242 (omega (arith, few)) c.places.ensures.few)

pub overflow_add-result : goal.overflow_add-result
overflow_add-result g c =
    let (number, on) = c.requires in
    let is = c.laws.ensures.basis in
    let few : c.args.track < 64 = omega (arith, track_low is number on.wire.wire, on.on_track, c.args.self.now.laid.shape.tracks, c.args.self.now.layout.now.shape.small.few_tracks) in
    omega (arith, mul-le c.args.track c.places.result 64 165242 (omega (arith, few)) c.places.ensures.few, place_low is c.args.place number on.wire, places_few is)

pub overflow_mul-result-2 : goal.overflow_mul-result-2
overflow_mul-result-2 g c =
    let (number, on) = c.requires in
    let is = c.laws.ensures.basis in
    let low : c.args.place ≤ 2 ^ 22 = omega (arith, place_low is c.args.place number on.wire, places_few is) in
    omega (arith, mul-le c.args.place c.args.self.now.layout.now.shape.tracks (2 ^ 22) 64 low c.args.self.now.layout.now.shape.small.few_tracks)

pub overflow_add-result-2 : goal.overflow_add-result-2
overflow_add-result-2 g c =
    let (number, on) = c.requires in
    let is = c.laws.ensures.basis in
    let few : c.args.track < 64 = omega (arith, track_low is number on.wire.wire, on.on_track, c.args.self.now.laid.shape.tracks, c.args.self.now.layout.now.shape.small.few_tracks) in
    let low : c.args.place ≤ 2 ^ 22 = omega (arith, place_low is c.args.place number on.wire, places_few is) in
    omega (arith, few, mul-le c.args.place c.args.self.now.layout.now.shape.tracks (2 ^ 22) 64 low c.args.self.now.layout.now.shape.small.few_tracks)

pub returns : goal.returns
returns g c = λ number on.
    let basis = g.G.StripGraph.basis c.args.self.now.graph.now in
    let laid = c.args.self.now.laid in
    let tracks = c.args.self.now.layout.now.shape.tracks in
    let track = c.args.track in
    let place = c.args.place in
    let at : place ≡ place_of basis ((graph_of basis).node number) = sym on.wire.is_at in
    let is : track * c.places.result + place ≡ ((graph_of basis).node number).n * place_count basis + place_of basis ((graph_of basis).node number) =
    ap (λ (m : ℕ). track * m + place) (c.places.ensures.value basis laid.shape)
    ∙ (ap (λ (n : ℕ). n * place_count basis + place) (sym on.on_track) ∙ ap (λ (p : ℕ). ((graph_of basis).node number).n * place_count basis + p) at) in
    let is_by_place : place * tracks + track ≡ place_of basis ((graph_of basis).node number) * basis.arch.tracks + ((graph_of basis).node number).n =
    ap (λ (m : ℕ). place * m + track) laid.shape.tracks
    ∙ (ap (λ (n : ℕ). place * basis.arch.tracks + n) (sym on.on_track) ∙ ap (λ (p : ℕ). p * basis.arch.tracks + ((graph_of basis).node number).n) at) in
    record {
      wire = on.wire.wire;
      is = is;
      low = omega (arith, spot_low c.laws.ensures.basis number on.wire.wire, is);
      is_by_place = is_by_place;
      low_by_place = omega (arith, by_place_low c.laws.ensures.basis number on.wire.wire, is_by_place);
    }
