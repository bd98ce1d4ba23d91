use Rattle.fabric_planes.proofs.Prelude.{◌<◌, arith, length, sym, subst, Terminals, planes_of, AreRivalsFrom, AreWiresTo, StartWire}
use Rattle.fabric_planes.proofs.RivalLists.{lowered_then, limited_then, each_more}
use Rattle.fabric_planes.proofs.RivalStarts.{wires_here, wires_still}
use Rattle.fabric_planes.proofs.rival_bounds.Known.lower_by_wires.Goals as goal

pub lower_by_wire-requires-clause-limited : goal.lower_by_wire-requires-clause-limited
lower_by_wire-requires-clause-limited g c = limited_then _ c.args.self.now.limits.most _ _ c.requires c.loop-index.invariant.falls

pub lower_by_wire-requires-clause-wire : goal.lower_by_wire-requires-clause-wire
lower_by_wire-requires-clause-wire g c =
    let b : c.loop-index.index < length c.args.self.now.planes.now.listed.now.wires.items = omega arith in
    (c.loop-index.index, b, sym c.index.ensures)

pub loop-index-preserved : goal.loop-index-preserved
loop-index-preserved g c =
    let p = c.args.self.now.planes.now in
    let basis = g.G.StripGraph.basis p.strip.graph.now in
    let cost = g.C.NodeCosts.costs p.costs.now in
    let f = planes_of basis cost p.starts.now p.goal (record { source = p.source; sink = p.sink }) in
    let t : Terminals = record { source = p.source; sink = p.sink } in
    let wires = c.args.self.now.planes.now.listed.now.wires.items in
    let b : c.loop-index.index < length wires = omega arith in
    record {
      falls = lowered_then _ _ _ c.loop-index.invariant.falls c.lower_by_wire.ensures.falls;
      low = each_more (λ k bounds. AreWiresTo basis cost f t c.args.self.now.head wires k bounds) (λ k. wires_still basis cost f t c.args.self.now.head wires k) _ _ c.loop-index.index c.loop-index.invariant.low c.lower_by_wire.ensures.falls
          (wires_here basis cost f t c.args.self.now.head wires c.loop-index.index c.index.result.now _ b
          (subst (λ (v : StartWire). AreRivalsFrom basis cost f t c.args.self.now.head v.number c.lower_by_wire.new.bounds) c.index.ensures c.lower_by_wire.ensures.low));
    }

pub returns-clause-low : goal.returns-clause-low
returns-clause-low g c = λ wire there. c.loop-index.invariant.low there.0 (omega (arith, there.1)) wire there.2
