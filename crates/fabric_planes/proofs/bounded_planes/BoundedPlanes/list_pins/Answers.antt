use Rattle.fabric_planes.proofs.Prelude.{◌≡◌, ℕ, ◌+◌, ◌<◌, List, length, map, sym, ap, subst, ◌∙◌, arith, Contains, slice_index, get_or_read, get_or_default, All-contains, graph_of, Start, IsPlaneBound, Terminals, IsStart, place_of, planes_of, AreSomeStarts}
use Rattle.fabric_planes.proofs.ListedStarts.{IsShownIn, entry_of, entry_bound, pin_shows, shows_pin, some_more}
use Rattle.fabric_planes.proofs.NetRoads.{tracks_of}
use Rattle.fabric_planes.proofs.StartLists.{pin_of}
use Rattle.fabric_planes.proofs.TrackStarts.{HasPins, pins_skip, pins_more}
use Rattle.fabric_planes.proofs.bounded_planes.BoundedPlanes.list_pins.Goals.{in-Some+in_ok-push, in_default}
use Rattle.fabric_planes.proofs.bounded_planes.BoundedPlanes.list_pins.Goals as goal

pub index-requires : goal.index-requires
index-requires g c =
    let self = c.args.self.now.planes.now in
    let t : Terminals = record { source = self.source; sink = self.sink } in
    let costs = g.C.NodeCosts.costs self.costs.now in
    let basis = g.G.StripGraph.basis self.strip.graph.now in
    omega (arith, c.requires, c.args.self.now.are_bounds.long, tracks_of basis costs self.starts.now self.goal t)

pub pin_place-requires : goal.pin_place-requires
pin_place-requires g c =
    let self = c.args.self.now.planes.now in
    let t : Terminals = record { source = self.source; sink = self.sink } in
    let basis = g.G.StripGraph.basis self.strip.graph.now in
    let n = c.index-in-loop-index.result.now in
    let in_pins : c.loop-index.index < length c.args.self.now.planes.now.listed.now.pins.items = omega (arith, c.loop-index-test.true, c.len-index-end.ensures) in
    let p = pin_of basis self.starts.now c.args.self.now.planes.now.listed.now c.args.self.now.planes.now.are_listed n (c.loop-index.index, in_pins, sym c.index-in-loop-index.ensures) in
    (All-contains (IsStart basis t) self.starts.now n self.search.starts_are p.0).within

pub loop-index-preserved : goal.loop-index-preserved
loop-index-preserved g c =
    let self = c.args.self.now.planes.now in
    let t : Terminals = record { source = self.source; sink = self.sink } in
    let costs = g.C.NodeCosts.costs self.costs.now in
    let basis = g.G.StripGraph.basis self.strip.graph.now in
    let f = planes_of basis costs self.starts.now self.goal t in
    let net = c.args.self.now.planes.now.listed.now in
    let all = c.args.self.now.bounds.now.all.items in
    let n = c.index-in-loop-index.result.now in
    let list = c.loop-index.starts.items in
    let index = c.loop-index.index in
    let track = c.args.track in
    let inv = c.loop-index.invariant in
    let in_pins : index < length net.pins.items = omega (arith, c.loop-index-test.true, c.len-index-end.ensures) in
    let read : n ≡ slice_index net.pins.items index = get_or_read net.pins.items index n in_pins c.index-in-loop-index.ensures 0 in
    let p = pin_of basis self.starts.now net c.args.self.now.planes.now.are_listed n (index, in_pins, sym c.index-in-loop-index.ensures) in
    let low_n : n < (graph_of basis).count = (All-contains (IsStart basis t) self.starts.now n self.search.starts_are p.0).within in
    let tracks = tracks_of basis costs self.starts.now self.goal t in
    let within : track < length all = omega (arith, c.requires, c.args.self.now.are_bounds.long, tracks) in
    let bound : c.index.result.now ≡ slice_index all track = get_or_read all track c.index.result.now within c.index.ensures 0 in
    let low : IsPlaneBound f track c.index.result.now = subst (IsPlaneBound f track) (sym bound) (c.args.self.now.are_bounds.each track (omega (arith, c.requires, tracks))) in
    elim c.match-pin_place.branch [
      | in-Some+in_ok-push w ↦
          let there = w.in-Some.ensures.there in
          let s : Start = record { place = w.in-Some.place; ahead = c.index.result.now } in
          let shown = pin_shows c.laws.ensures.basis t costs self.starts.now self.goal self.search track n there.0 in
          let entry : Contains (f.entries track) s.place = subst (Contains (f.entries track)) (sym there.1) (entry_of c.laws.ensures.basis t costs self.starts.now self.goal self.search track n p.0 shown) in
          rw w.starts-is (subst (λ (xs : List Start). AreSomeStarts f track xs × HasPins basis t costs self.starts.now self.goal net.pins.items track (index + 1) xs) (sym w.in_ok-push.ensures.items) (
            some_more c.laws.ensures.basis t costs self.starts.now self.goal self.search track list s inv.0 entry (entry_bound c.laws.ensures.basis t costs self.starts.now self.goal self.search track s.place s.ahead low entry),
            pins_more basis t costs self.starts.now self.goal net.pins.items track index list s inv.1 (there.1 ∙ ap (λ (v : ℕ). place_of basis ((graph_of basis).node v)) read),
          ))
      | in_default w ↦
          rw w.starts-is (inv.0, pins_skip basis t costs self.starts.now self.goal net.pins.items track index list inv.1 (λ shown. w.in_default.ensures.none (shows_pin c.laws.ensures.basis t costs self.starts.now self.goal self.search track n low_n p.1 (subst (λ (v : ℕ). IsShownIn basis t costs self.starts.now self.goal track v) (sym read) shown))))
    ]

pub returns-clause-pins : goal.returns-clause-pins
returns-clause-pins g c = λ number (k, b, e) shown.
    let self = c.args.self.now.planes.now in
    let t : Terminals = record { source = self.source; sink = self.sink } in
    let costs = g.C.NodeCosts.costs self.costs.now in
    let basis = g.G.StripGraph.basis self.strip.graph.now in
    let net = c.args.self.now.planes.now.listed.now in
    let same : slice_index net.pins.items k ≡ number = get_or_default net.pins.items k 0 number b ∙ e in
    subst (λ (v : ℕ). Contains (map (λ (start : Start). start.place) c.loop-index.starts.items) (place_of basis ((graph_of basis).node v))) same
    (c.loop-index.invariant.1 k (omega (arith, b, c.loop-index-test.false, c.len-index-end.ensures)) (subst (λ (v : ℕ). IsShownIn basis t costs self.starts.now self.goal c.args.track v) (sym same) shown))
