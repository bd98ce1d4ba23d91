use Rattle.fabric_planes.proofs.Prelude.{◌≡◌, ℕ, ◌+◌, ◌++◌, ◌∷◌, [], ◌∙◌, List, map, sym, ap, subst, arith, range_with_len, map-range_with_len_more, first_row, first_rows, AreArrivals}
use Rattle.fabric_planes.proofs.AheadWires.{node_there}
use Rattle.fabric_planes.proofs.ArrivalNumbers.{are_arrivals}
use Rattle.fabric_planes.proofs.Strips.{node_fields}
use Rattle.fabric_planes.proofs.quest.Quest.list_firsts.Goals as goal

pub first_row-requires : goal.first_row-requires
first_row-requires g c =
    let self = c.args.self.now in
    node_fields c.laws.ensures.basis self.sink (node_there c.laws.ensures.basis self.goal self.search.terminals.goal_within self.sink self.search.terminals.goal_is)

pub loop-number-preserved : goal.loop-number-preserved
loop-number-preserved g c =
    let basis = g.G.StripGraph.basis c.args.self.now.priced.now.graph.now in
    let side = c.loop-number.number in
    let f : ℕ → ℕ = first_row basis c.args.self.now.sink in
    let none : 0 + side ≡ side = omega arith in
    c.in_ok-push.ensures.items
    ∙ (ap (λ (xs : List ℕ). xs ++ c.first_row.result ∷ []) c.loop-number.invariant
    ∙ (ap (λ (r : ℕ). map f (range_with_len 0 side) ++ r ∷ []) c.first_row.ensures ∙ sym (map-range_with_len_more f 0 side side none)))

pub returns : goal.returns
returns g c =
    let self = c.args.self.now in
    let basis = g.G.StripGraph.basis self.priced.now.graph.now in
    let sink = self.sink in
    let end : c.loop-number.number ≡ 4 = omega (arith, c.loop-number-test.false, c.loop-number.auto.number-end) in
    let listed : c.loop-number.firsts.items ≡ first_rows basis sink = c.loop-number.invariant ∙ ap (λ (k : ℕ). map (first_row basis sink) (range_with_len 0 k)) end in
    let rows = self.priced.now.layout.now.arrivals.rows in
    let there = node_there c.laws.ensures.basis self.goal self.search.terminals.goal_within self.sink self.search.terminals.goal_is in
    subst (λ (firsts : List ℕ). AreArrivals basis sink rows firsts) (sym listed) (are_arrivals c.laws.ensures.basis sink there self.search.terminals.kind rows self.priced.now.laid.arrivals)
