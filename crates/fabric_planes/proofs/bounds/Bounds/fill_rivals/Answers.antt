use Rattle.fabric_planes.proofs.Prelude.{◌∙◌, sym, on_ok_weaker, Terminals}
use Rattle.fabric_planes.proofs.NetRoads.{tracks_of}
use Rattle.fabric_planes.proofs.RivalPaths.{from_all}
use Rattle.fabric_planes.proofs.bounds.Bounds.fill_rivals.Goals as goal

pub returns-then-has_others-clause-long : goal.returns-then-has_others-clause-long
returns-then-has_others-clause-long g c =
    let p = c.args.planes.now in
    let basis = g.G.StripGraph.basis p.strip.graph.now in
    let cost = g.C.NodeCosts.costs p.costs.now in
    let t : Terminals = record { source = p.source; sink = p.sink } in
    on_ok_weaker c.fill_before.result (λ long. long ∙ sym (tracks_of basis cost p.starts.now p.goal t)) c.fill_before.ensures.long

pub returns-then-has_others-clause-rivals : goal.returns-then-has_others-clause-rivals
returns-then-has_others-clause-rivals g c = on_ok_weaker c.fill_before.result (λ rivals nodes some. rivals nodes (rw c.in-Some.is at some)) c.fill_before.ensures.rivals

pub returns-clause-rivals : goal.returns-clause-rivals
returns-clause-rivals g c =
    let p = c.args.planes.now in
    let cost = g.C.NodeCosts.costs p.costs.now in
    let t : Terminals = record { source = p.source; sink = p.sink } in
    on_ok_weaker c.copy_all.result (λ same nodes some. from_all c.laws.ensures.basis t cost p.starts.now p.goal p.search c.args.self.now.all.items c.copy_all.new.self.rivals.items nodes same c.requires) c.copy_all.ensures.rivals
