use Rattle.fabric_planes.proofs.Prelude.{◌≡◌, ◌+◌, ◌<◌, List, length, sym, subst, arith, slice_index_or, get_or_read, Start, Terminals, planes_of, AddsWires, AreSomeStarts, KeepsStarts, StartWire}
use Rattle.fabric_planes.proofs.ListedStarts.{place_kept, some_more}
use Rattle.fabric_planes.proofs.TrackStarts.{wire_entry, wires_more, wires_skip}
use Rattle.fabric_planes.proofs.bounded_planes.BoundedPlanes.add_wires.Goals.{in-Some+in_ok-push, in_default}
use Rattle.fabric_planes.proofs.bounded_planes.BoundedPlanes.add_wires.Goals as goal

pub loop-index-preserved : goal.loop-index-preserved
loop-index-preserved g c =
    let self = c.args.self.now.planes.now in
    let t : Terminals = record { source = self.source; sink = self.sink } in
    let costs = g.C.NodeCosts.costs self.costs.now in
    let basis = g.G.StripGraph.basis self.strip.graph.now in
    let f = planes_of basis costs self.starts.now self.goal t in
    let net = c.args.self.now.planes.now.listed.now in
    let wire = c.index.result.now in
    let list = c.loop-index.starts.items in
    let index = c.loop-index.index in
    let track = c.args.track in
    let most = c.args.most in
    let inv = c.loop-index.invariant in
    let within : index < length net.wires.items = omega (arith, c.loop-index-test.true, c.len-index-end.ensures) in
    let read : (other : StartWire) → slice_index_or net.wires.items index other ≡ wire = λ other. sym (get_or_read net.wires.items index wire within c.index.ensures other) in
    elim c.match-wire_start.branch [
      | in-Some+in_ok-push w ↦
          let of = w.in-Some.ensures.there in
          let start = w.in-Some.start in
          let entry = wire_entry basis t costs self.starts.now self.goal c.laws.ensures.basis self.search net c.args.self.now.planes.now.are_listed track wire start (index, within, sym c.index.ensures) of in
          rw w.starts-is (subst (λ (xs : List Start). AreSomeStarts f track xs × KeepsStarts c.args.starts.now.items xs × AddsWires f track most (index + 1) net.wires.items xs) (sym w.in_ok-push.ensures.items) (
            some_more c.laws.ensures.basis t costs self.starts.now self.goal self.search track list start inv.0 entry of.bound,
            λ place k. place_kept list start place (inv.1 place k),
            wires_more basis t costs self.starts.now self.goal net.wires.items track most index list wire start inv.2 read of.place_is,
          ))
      | in_default w ↦
          rw w.starts-is (inv.0, inv.1, wires_skip basis t costs self.starts.now self.goal net.wires.items track most index list wire inv.2 read w.in_default.ensures.none)
    ]

pub returns-clause-wires : goal.returns-clause-wires
returns-clause-wires g c = λ k wire b e on. c.loop-index.invariant.2 k wire (omega (arith, b, c.loop-index-test.false, c.len-index-end.ensures)) e on
