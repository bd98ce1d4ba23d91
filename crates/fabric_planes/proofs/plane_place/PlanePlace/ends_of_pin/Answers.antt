use Rattle.fabric_planes.proofs.Prelude.{◌+◌, ◌*◌, ◌<◌, ◌≤◌, ◌^◌, ℕ, [], arith, mul-le, PinAt, Terminals}
use Rattle.fabric_planes.proofs.StepEnds.{pin_within, pin_ends_are, no_ends, plane_rises, rising_before}
use Rattle.fabric_planes.proofs.plane_place.PlanePlace.ends_of_pin.Goals as goal

-- the row's number fits
row_few : (pin : PinAt) (track tracks : ℕ) → pin.per_track ≤ 1 → pin.row ≤ 2 ^ 32 → track < tracks → tracks ≤ 64 → pin.row + pin.per_track * track ≤ 2 ^ 32 + 64
row_few pin track tracks one few less low =
    let m : pin.per_track * track ≤ 1 * 64 = mul-le pin.per_track track 1 64 one (omega (arith, less, low)) in
    omega (arith, m, few)

pub row-requires : goal.row-requires
row-requires g c =
    let self = c.args.self.now.planes.now in
    let is = c.laws.ensures.basis in
    let t : Terminals = record { source = self.source; sink = self.sink } in
    let costs = g.C.NodeCosts.costs self.costs.now in
    let firsts = self.strip.layout.now.firsts.items in
    pin_within is t costs self.starts.now self.goal self.search firsts self.strip.laid.firsts self.pin_ends.now self.shown.now self.have_ends c.args.self.now.track c.in-Some.pin c.args.self.now.on_track c.in-Some.ensures.found.0

pub returns-in-Some-clause-value : goal.returns-in-Some-clause-value
returns-in-Some-clause-value g c =
    let self = c.args.self.now.planes.now in
    let is = c.laws.ensures.basis in
    let t : Terminals = record { source = self.source; sink = self.sink } in
    let costs = g.C.NodeCosts.costs self.costs.now in
    let firsts = self.strip.layout.now.firsts.items in
    let pin = c.in-Some.pin in
    let found = c.in-Some.ensures.found in
    let is_value = pin_ends_are is t costs self.starts.now self.goal self.search firsts self.strip.laid.firsts self.pin_ends.now self.shown.now self.have_ends c.args.self.now.track c.args.self.now.place pin c.row.result.now c.args.self.now.on_track found.0 found.1 c.row.ensures in
    is_value

pub returns-in-Some-clause-rising : goal.returns-in-Some-clause-rising
returns-in-Some-clause-rising g c =
    let self = c.args.self.now.planes.now in
    let is = c.laws.ensures.basis in
    let t : Terminals = record { source = self.source; sink = self.sink } in
    let costs = g.C.NodeCosts.costs self.costs.now in
    let firsts = self.strip.layout.now.firsts.items in
    let pin = c.in-Some.pin in
    let found = c.in-Some.ensures.found in
    let is_value = pin_ends_are is t costs self.starts.now self.goal self.search firsts self.strip.laid.firsts self.pin_ends.now self.shown.now self.have_ends c.args.self.now.track c.args.self.now.place pin c.row.result.now c.args.self.now.on_track found.0 found.1 c.row.ensures in
    rising_before pin.base c.row.result.now _ is_value (plane_rises is t costs self.starts.now self.goal self.search firsts self.strip.laid.firsts c.args.self.now.track c.args.self.now.place)

pub returns-in-None-clause-value : goal.returns-in-None-clause-value
returns-in-None-clause-value g c =
    let self = c.args.self.now.planes.now in
    let is = c.laws.ensures.basis in
    let t : Terminals = record { source = self.source; sink = self.sink } in
    let costs = g.C.NodeCosts.costs self.costs.now in
    let firsts = self.strip.layout.now.firsts.items in
    let is_value = no_ends is t costs self.starts.now self.goal self.search firsts self.strip.laid.firsts self.shown.now self.are_pins self.strip.layout.now.steps self.strip.laid.steps c.args.self.now.track c.args.self.now.place c.args.self.now.in_plane c.requires.no_wire c.in-None.ensures.none in
    is_value

pub returns-in-None-clause-rising : goal.returns-in-None-clause-rising
returns-in-None-clause-rising g c =
    let self = c.args.self.now.planes.now in
    let is = c.laws.ensures.basis in
    let t : Terminals = record { source = self.source; sink = self.sink } in
    let costs = g.C.NodeCosts.costs self.costs.now in
    let firsts = self.strip.layout.now.firsts.items in
    let is_value = no_ends is t costs self.starts.now self.goal self.search firsts self.strip.laid.firsts self.shown.now self.are_pins self.strip.layout.now.steps self.strip.laid.steps c.args.self.now.track c.args.self.now.place c.args.self.now.in_plane c.requires.no_wire c.in-None.ensures.none in
    rising_before 0 [] _ is_value (plane_rises is t costs self.starts.now self.goal self.search firsts self.strip.laid.firsts c.args.self.now.track c.args.self.now.place)

pub overflow_mul-pin : goal.overflow_mul-pin
overflow_mul-pin g c =
    let pin = c.in-Some.pin in
    let has = c.args.self.now.planes.now.have_ends pin c.in-Some.ensures.found.0 in
    omega (arith, row_few pin c.args.self.now.track (g.G.StripGraph.basis c.args.self.now.planes.now.strip.graph.now).arch.tracks has.per_track has.few c.args.self.now.on_track c.laws.ensures.basis.arch.tracks.1)

pub overflow_add-pin : goal.overflow_add-pin
overflow_add-pin g c =
    let pin = c.in-Some.pin in
    let has = c.args.self.now.planes.now.have_ends pin c.in-Some.ensures.found.0 in
    omega (arith, row_few pin c.args.self.now.track (g.G.StripGraph.basis c.args.self.now.planes.now.strip.graph.now).arch.tracks has.per_track has.few c.args.self.now.on_track c.laws.ensures.basis.arch.tracks.1)
