use Rattle.fabric_planes.proofs.Prelude.{◌≡◌, ◌∙◌, ℕ, ◌⊎◌, List, [], ap, sym, subst, on_ok_weaker, Node, Sink, Source, graph_of, PinAt, AddsPins, IsOutputOf, IsOwnPin}
use Rattle.fabric_planes.proofs.ShownPins.{both_added, are_pins}
use Rattle.fabric_planes.proofs.quest.Quest.list_pins.Goals as goal

pub returns : goal.returns
returns g c =
    let basis = g.G.StripGraph.basis c.args.self.now.priced.now.graph.now in
    let rows = c.args.self.now.priced.now.layout.now.pins.rows in
    let self = c.args.self.now in
    let source = self.from in
    let goal = self.goal in
    let is_sink = self.search.terminals.goal_is in
    let source_kind : ((graph_of basis).node source).kind ≡ Source = ap (λ (v : Node). v.kind) self.source_is ∙ self.kind in
    let goal_kind : ((graph_of basis).node goal).kind ≡ Sink = ap (λ (v : Node). v.kind) is_sink ∙ self.search.terminals.kind in
    let is_source : ℕ → Type 0 = λ k. k ≡ source in
    let is_goal : ℕ → Type 0 = λ k. k ≡ goal in
    let outputs : ℕ → Type 0 = IsOutputOf basis ((graph_of basis).node source) in
    let inputs : ℕ → Type 0 = IsOwnPin basis ((graph_of basis).node goal) in
    let a = c.add_pin.new.pins.items in
    let b = c.add_outputs.new.pins.items in
    let d = c.add_inputs.new.pins.items in
    let first : AddsPins basis rows is_source [] a = subst (λ (old : List PinAt). AddsPins basis rows is_source old a) c.clear.ensures.items c.in_ok-add_pin.ensures in
    let second : AddsPins basis rows outputs a b = subst (λ (v : Node). AddsPins basis rows (IsOutputOf basis v) a b) (sym self.source_is) c.in_ok-add_outputs.ensures in
    let third : AddsPins basis rows inputs b d = subst (λ (v : Node). AddsPins basis rows (IsOwnPin basis v) b d) (sym is_sink) c.in_ok-add_inputs.ensures in
    let most : AddsPins basis rows (λ k. (is_source k ⊎ outputs k) ⊎ inputs k) [] d = both_added basis rows (λ k. is_source k ⊎ outputs k) inputs [] b d (both_added basis rows is_source outputs [] a b first second) third in
    on_ok_weaker c.add_pin-2.result (λ last. are_pins c.laws.ensures.basis rows source goal self.within self.search.terminals.goal_within source_kind goal_kind c.add_pin-2.new.pins.items
    (both_added basis rows (λ k. (is_source k ⊎ outputs k) ⊎ inputs k) is_goal [] d c.add_pin-2.new.pins.items most last)) c.add_pin-2.ensures
