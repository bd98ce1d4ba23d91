use Rattle.fabric_planes.proofs.Prelude.{◌≡◌, ◌∙◌, ℕ, List, length, drop, ap, sym, subst, arith, Terminals, planes_of, AreBounds, AreRivals}
use Rattle.fabric_planes.proofs.NetRoads.{tracks_of}
use Rattle.fabric_planes.proofs.RivalLists.{written}
use Rattle.fabric_planes.proofs.RivalPaths.{with_own}
use Rattle.fabric_planes.proofs.bounds.Bounds.fill_before.Goals as goal

pub take_own-requires : goal.take_own-requires
take_own-requires g c =
    let p = c.args.planes.now in
    let basis = g.G.StripGraph.basis p.strip.graph.now in
    let cost = g.C.NodeCosts.costs p.costs.now in
    let t : Terminals = record { source = p.source; sink = p.sink } in
    let n : length c.lower_by_starts.new.bounds ≡ basis.arch.tracks = c.lower_by_starts.ensures.falls.long ∙ (ap (λ (xs : List ℕ). length xs) c.as_mut_slice-rivals.ensures.value ∙ c.in_ok-begin.ensures.long) in
    ap (λ (xs : List ℕ). length xs) c.as_slice.ensures.value ∙ (c.requires.long ∙ (tracks_of basis cost p.starts.now p.goal t ∙ sym n))

pub returns-clause-rivals : goal.returns-clause-rivals
returns-clause-rivals g c = λ nodes head.
    let p = c.args.planes.now in
    let basis = g.G.StripGraph.basis p.strip.graph.now in
    let cost = g.C.NodeCosts.costs p.costs.now in
    let t : Terminals = record { source = p.source; sink = p.sink } in
    let f = planes_of basis cost p.starts.now p.goal t in
    let lowered = c.lower_by_starts.new.bounds in
    let new = c.take_own.new.bounds in
    let n : length c.lower_by_starts.new.bounds ≡ basis.arch.tracks = c.lower_by_starts.ensures.falls.long ∙ (ap (λ (xs : List ℕ). length xs) c.as_mut_slice-rivals.ensures.value ∙ c.in_ok-begin.ensures.long) in
    let e : c.begin.new.bounds.len ≡ length new = omega (arith, n, c.in_ok-begin.ensures.long, c.take_own.ensures.long, c.begin.new.bounds.ok.0) in
    let all = subst (AreBounds f) (sym c.as_slice.ensures.value) c.requires in
    let are : AreRivals f nodes new =
    with_own c.laws.ensures.basis t cost p.starts.now p.goal p.search c.args.head nodes c.as_slice.result.now lowered new all n (c.lower_by_starts.ensures.low nodes head) c.take_own.ensures.other c.take_own.ensures.own in
    subst (λ (xs : List ℕ). AreRivals f nodes xs) (sym (written new (drop (length new) c.begin.new.bounds.items) c.begin.new.bounds.len e)) are
