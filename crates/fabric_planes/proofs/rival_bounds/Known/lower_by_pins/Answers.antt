use Rattle.fabric_planes.proofs.Prelude.{ℕ, ◌<◌, ◌≡◌, arith, length, sym, subst, ◌∙◌, slice_index, get_or_default, Terminals, planes_of, AreRivalsFrom}
use Rattle.fabric_planes.proofs.RivalLists.{lowered_then, limited_then, each_more}
use Rattle.fabric_planes.proofs.RivalStarts.{contained_index, from_still}
use Rattle.fabric_planes.proofs.rival_bounds.Known.lower_by_pins.Goals as goal

pub lower_by_pin-requires-clause-limited : goal.lower_by_pin-requires-clause-limited
lower_by_pin-requires-clause-limited g c = limited_then _ c.args.self.now.limits.most _ _ c.requires c.loop-index.invariant.falls

pub lower_by_pin-requires-clause-pin : goal.lower_by_pin-requires-clause-pin
lower_by_pin-requires-clause-pin g c =
    let b : c.loop-index.index < length c.args.self.now.planes.now.listed.now.pins.items = omega arith in
    (c.loop-index.index, b, sym c.index.ensures)

pub loop-index-preserved : goal.loop-index-preserved
loop-index-preserved g c =
    let p = c.args.self.now.planes.now in
    let basis = g.G.StripGraph.basis p.strip.graph.now in
    let cost = g.C.NodeCosts.costs p.costs.now in
    let f = planes_of basis cost p.starts.now p.goal (record { source = p.source; sink = p.sink }) in
    let t : Terminals = record { source = p.source; sink = p.sink } in
    let pins = c.args.self.now.planes.now.listed.now.pins.items in
    let b : c.loop-index.index < length pins = omega arith in
    let e : c.index.result.now ≡ slice_index pins c.loop-index.index = c.index.ensures ∙ get_or_default pins c.loop-index.index c.index.result.now 0 b in
    record {
      falls = lowered_then _ _ _ c.loop-index.invariant.falls c.lower_by_pin.ensures.falls;
      low = each_more (λ k bounds. AreRivalsFrom basis cost f t c.args.self.now.head (slice_index pins k) bounds) (λ k. from_still basis cost f t c.args.self.now.head (slice_index pins k)) _ _ c.loop-index.index c.loop-index.invariant.low c.lower_by_pin.ensures.falls
          (subst (λ (v : ℕ). AreRivalsFrom basis cost f t c.args.self.now.head v c.lower_by_pin.new.bounds) e c.lower_by_pin.ensures.low);
    }

pub returns-clause-low : goal.returns-clause-low
returns-clause-low g c = λ number there.
    let p = c.args.self.now.planes.now in
    let basis = g.G.StripGraph.basis p.strip.graph.now in
    let cost = g.C.NodeCosts.costs p.costs.now in
    let f = planes_of basis cost p.starts.now p.goal (record { source = p.source; sink = p.sink }) in
    let t : Terminals = record { source = p.source; sink = p.sink } in
    let b : there.0 < c.loop-index.index = omega (arith, there.1) in
    subst (λ (v : ℕ). AreRivalsFrom basis cost f t c.args.self.now.head v c.loop-index.bounds) (contained_index c.args.self.now.planes.now.listed.now.pins.items number there) (c.loop-index.invariant.low there.0 b)
