use Rattle.fabric_planes.proofs.Prelude.{◌≡◌, ◌+◌, ◌<◌, sym, ◌∙◌, arith, slice_index, leb-false, get_or_read, graph_of, Terminals, place_of, place_count}
use Rattle.fabric_planes.proofs.Found.{place_low}
use Rattle.fabric_planes.proofs.Numbers.{number_some}
use Rattle.fabric_planes.proofs.RivalSides.{met_place}
use Rattle.fabric_planes.proofs.Strips.{track_low}
use Rattle.fabric_planes.proofs.SideRows.{far_dear}
use Rattle.fabric_planes.proofs.rival_bounds.Known.is_needed.Goals.{then-place-places-via-then-place-places, then-place-places-via-else-place-places+then-index}
use Rattle.fabric_planes.proofs.rival_bounds.Known.is_needed.Goals as goal

pub returns-then-place-places-clause-none : goal.returns-then-place-places-clause-none
returns-then-place-places-clause-none g c = λ e pin wire output met.
    let self = c.args.self.now.planes.now in
    let basis = g.G.StripGraph.basis self.strip.graph.now in
    let is = c.laws.ensures.basis in
    let place = slice_index self.own_sides.now c.args.side.number in
    let at : place ≡ place_of basis ((graph_of basis).node wire) = met_place is self.source pin self.own_sides.now c.args.side.number wire self.are_own_sides output met in
    let low : place < place_count basis = place_low is place wire (record { wire = met.wire_is; is_at = sym at }) in
    let firsts = self.strip.layout.now.firsts.items in
    elim c.then-place-places.branch [
      | then-place-places-via-then-place-places w ↦ absurd (omega (arith, w.if-place-places.true, c.places.ensures.value basis self.strip.laid.shape, low))
      | then-place-places-via-else-place-places+then-index w ↦ absurd (number_some is firsts self.strip.laid.firsts place wire (record { wire = met.wire_is; is_at = sym at }) (sym (get_or_read firsts place w.index.result.now (omega (arith, low, self.strip.laid.firsts.long)) w.index.ensures 0) ∙ w.if-index.true))
    ]

pub returns-else-far-eq0-clause-none : goal.returns-else-far-eq0-clause-none
returns-else-far-eq0-clause-none g c = λ e pin wire output met.
    let self = c.args.self.now.planes.now in
    let t : Terminals = record { source = self.source; sink = self.sink } in
    let costs = g.C.NodeCosts.costs self.costs.now in
    let basis = g.G.StripGraph.basis self.strip.graph.now in
    let is = c.laws.ensures.basis in
    let place = slice_index self.own_sides.now c.args.side.number in
    let at : place ≡ place_of basis ((graph_of basis).node wire) = met_place is self.source pin self.own_sides.now c.args.side.number wire self.are_own_sides output met in
    far_dear is t costs self.starts.now self.goal self.search self.pins.now self.lasts.now self.bounded c.args.more wire place c.args.self.now.limits.most c.args.self.now.limits.least self.aheads.now self.least_lasts.now met.wire_is at self.are_aheads self.are_least
    c.if-far-eq0.false (c.args.self.now.are_limits.least ((graph_of basis).node wire).n (track_low is wire met.wire_is)) (leb-false (c.args.more + 1 + slice_index self.aheads.now place + c.args.self.now.limits.least) c.args.self.now.limits.most e)
