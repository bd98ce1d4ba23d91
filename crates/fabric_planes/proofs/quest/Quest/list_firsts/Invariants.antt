use Rattle.fabric_planes.proofs.Prelude.{◌≡◌, map, range_with_len, first_row}
use Rattle.fabric_planes.proofs.quest.Quest.list_firsts.Given as goal

abbrev pub invariant-loop-number : goal.invariant-loop-number
invariant-loop-number g l =
    let basis = g.G.StripGraph.basis l.self.priced.now.graph.now in
    l.firsts.items ≡ map (first_row basis l.self.sink) (range_with_len 0 l.number)
