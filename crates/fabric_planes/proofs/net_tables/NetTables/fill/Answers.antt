use Rattle.fabric_planes.proofs.Prelude.{◌≡◌, ◌∙◌, ap, subst, sym, on_ok_weaker, Node, NodeKind, IsWire, graph_of, AreSides, IsNetSearch, Terminals, planes_of, terminals_of, ArePins, HaveEnds, ArePinsFor}
use Rattle.fabric_planes.proofs.AheadWires.{node_there, sink_inside, terminal_inside}
use Rattle.fabric_planes.proofs.Strips.{node_fields}
use Rattle.fabric_planes.proofs.net_tables.NetTables.fill.Goals as goal

pub list_sides-requires : goal.list_sides-requires
list_sides-requires g c =
    let quest = c.args.quest.now in
    node_fields c.laws.ensures.basis quest.source (node_there c.laws.ensures.basis quest.from quest.within quest.source quest.source_is)

pub list_sides-requires-2 : goal.list_sides-requires-2
list_sides-requires-2 g c =
    let quest = c.args.quest.now in
    let ends = quest.search.terminals in
    node_fields c.laws.ensures.basis quest.sink (node_there c.laws.ensures.basis quest.goal ends.goal_within quest.sink ends.goal_is)

pub fill-requires-2-clause-sides : goal.fill-requires-2-clause-sides
fill-requires-2-clause-sides g c =
    let quest = c.args.quest.now in
    let basis = g.G.StripGraph.basis quest.priced.now.graph.now in
    let is = c.laws.ensures.basis in
    let ends = quest.search.terminals in
    let inside = sink_inside is quest.sink ends.kind (node_there is quest.goal ends.goal_within quest.sink ends.goal_is) in
    subst (AreSides basis quest.sink) (sym c.deref.ensures.value) (c.in_ok-list_sides-2.ensures.are_sides basis is quest.priced.now.laid.shape inside)

pub returns : goal.returns
returns g c =
    let quest = c.args.quest.now in
    let basis = g.G.StripGraph.basis quest.priced.now.graph.now in
    let cost = g.C.NodeCosts.costs quest.priced.now.costs.now in
    let is = c.laws.ensures.basis in
    let ends = quest.search.terminals in
    let laid = quest.priced.now.laid in
    let rows = quest.priced.now.layout.now.pins.rows in
    let shown = c.list_pins.new.pins.items in
    let t : Terminals = record { source = quest.source; sink = quest.sink } in
    let no_wire : IsWire quest.source.kind → ⊥ = subst (λ (k : NodeKind). IsWire k → ⊥) (sym quest.kind) (λ w. w) in
    let from = terminal_inside is quest.source no_wire (node_there is quest.from quest.within quest.source quest.source_is) in
    let to = sink_inside is quest.sink ends.kind (node_there is quest.goal ends.goal_within quest.sink ends.goal_is) in
    let same : terminals_of basis quest.from quest.goal ≡ t =
    ap (λ (v : Node). record { source = v; sink = (graph_of basis).node quest.goal }) quest.source_is ∙ ap (λ (v : Node). record { source = quest.source; sink = v }) ends.goal_is in
    let pins : ArePinsFor basis rows quest.from quest.goal shown = c.in_ok-list_pins.ensures in
    let search : IsNetSearch basis cost quest.starts.now quest.goal (terminals_of basis quest.from quest.goal) = subst (λ (t : Terminals). IsNetSearch basis cost quest.starts.now quest.goal t) (sym same) quest.search in
    on_ok_weaker c.fill-2.result (λ bounds. record {
      sides = c.in_ok-list_sides-2.ensures.are_sides basis is laid.shape to;
      own_sides = c.in_ok-list_sides.ensures.are_sides basis is laid.shape from;
      bounds = bounds;
      pins = subst (λ (t : Terminals). ArePins basis t shown) same pins.are_pins;
      ends = subst (λ (t : Terminals). HaveEnds (planes_of basis cost quest.starts.now quest.goal t) rows shown) same (pins.have_ends cost quest.starts.now search);
      arrivals = c.in_ok-list_firsts.ensures;
      starts_are = c.in_ok-fill.ensures;
    }) c.fill-2.ensures
