use Rattle.fabric_planes.proofs.Prelude.{Terminals, planes_of}
use Rattle.fabric_planes.proofs.RivalLists.{limited_then, lowered_then}
use Rattle.fabric_planes.proofs.RivalPaths.{all_starts, rival_bound}
use Rattle.fabric_planes.proofs.RivalStarts.{from_still}
use Rattle.fabric_planes.proofs.rival_bounds.Known.lower_by_starts.Goals as goal

pub lower_by_wires-requires : goal.lower_by_wires-requires
lower_by_wires-requires g c = limited_then _ c.args.self.now.limits.most _ _ c.requires c.lower_by_pins.ensures.falls

pub returns-clause-falls : goal.returns-clause-falls
returns-clause-falls g c = lowered_then _ _ _ c.lower_by_pins.ensures.falls c.lower_by_wires.ensures.falls

pub returns-clause-low : goal.returns-clause-low
returns-clause-low g c = λ nodes is_head track few other.
    let p = c.args.self.now.planes.now in
    let basis = g.G.StripGraph.basis p.strip.graph.now in
    let cost = g.C.NodeCosts.costs p.costs.now in
    let t : Terminals = record { source = p.source; sink = p.sink } in
    let f = planes_of basis cost p.starts.now p.goal t in
    let bounds = c.lower_by_wires.new.bounds in
    rival_bound c.laws.ensures.basis t cost p.starts.now p.goal p.search c.args.self.now.head nodes is_head bounds
    (all_starts c.laws.ensures.basis t cost p.starts.now p.goal p.search c.args.self.now.head p.listed.now bounds p.are_listed
    (λ number there. from_still basis cost f t c.args.self.now.head number _ bounds (c.lower_by_pins.ensures.low number there) c.lower_by_wires.ensures.falls)
    c.lower_by_wires.ensures.low)
    track few other
