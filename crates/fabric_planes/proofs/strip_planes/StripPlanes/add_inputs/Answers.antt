use Rattle.fabric_planes.proofs.Prelude.{◌≡◌, ◌∙◌, ℕ, ◌+◌, ◌<◌, ◌⊎◌, true, ap, sym, subst, inl, inr, arith, cases_eq, Strip, Node, is_together, graph_of, IsOwnPin}
use Rattle.fabric_planes.proofs.OwnPins.{own_at}
use Rattle.fabric_planes.proofs.ShownPins.{both_added, same_added}
use Rattle.fabric_planes.proofs.strip_planes.StripPlanes.add_inputs.Goals as goal

pub loop-number-preserved : goal.loop-number-preserved
loop-number-preserved g c =
    let basis = g.G.StripGraph.basis c.args.self.now.graph.now in
    let rows = c.args.self.now.layout.now.pins.rows in
    let number = c.loop-number.number in
    let is_own = c.is_together-is_own.result in
    let now : ℕ → Type 0 = λ k. (k < number) × IsOwnPin basis c.args.sink k in
    let one : ℕ → Type 0 = λ k. (k ≡ number) × (is_own ≡ true) in
    let next : ℕ → Type 0 = λ k. (k < number + 1) × IsOwnPin basis c.args.sink k in
    let within : number < (graph_of basis).count = omega (arith, c.loop-number-test.true, c.numbers_at-numbers.ensures.within) in
    let kind = (c.numbers_at-numbers.ensures.sound number (omega (arith, c.loop-number.auto.number)) (omega (arith, c.loop-number-test.true))).kind in
    let own : is_own ≡ is_together basis.strip ((graph_of basis).node number) c.args.sink =
    c.is_together-is_own.ensures ∙ (ap (λ (s : Strip). is_together s c.node.result c.args.sink) c.strip.ensures ∙ ap (λ (v : Node). is_together basis.strip v c.args.sink) c.node.ensures) in
    same_added basis rows (λ k. now k ⊎ one k) next c.args.pins.now.items c.add_own.new.pins.items
    (λ k which. elim which [
      | inl h ↦ (omega (arith, h.0), h.1)
      | inr h ↦ (omega (arith, h.0), subst (IsOwnPin basis c.args.sink) (sym h.0) (record { within = within; kind = kind; own = sym own ∙ h.1 }))
    ])
    (λ k h. elim (cases_eq k number) [
      | inl same ↦ inr (same, own ∙ (ap (λ (j : ℕ). is_together basis.strip ((graph_of basis).node j) c.args.sink) (sym same) ∙ h.1.own))
      | inr other ↦ inl (omega (arith, h.0, other), h.1)
    ])
    (both_added basis rows now one c.args.pins.now.items c.loop-number.pins.items c.add_own.new.pins.items c.loop-number.invariant c.in_ok-add_own.ensures)

pub returns : goal.returns
returns g c =
    let basis = g.G.StripGraph.basis c.args.self.now.graph.now in
    same_added basis c.args.self.now.layout.now.pins.rows (λ k. (k < c.loop-number.number) × IsOwnPin basis c.args.sink k) (IsOwnPin basis c.args.sink) c.args.pins.now.items c.loop-number.pins.items (λ k h. h.1)
    (λ k own. (omega (arith, (c.numbers_at-numbers.ensures.all k own.within (own_at basis c.args.sink k own)).1, c.loop-number-test.false), own)) c.loop-number.invariant
