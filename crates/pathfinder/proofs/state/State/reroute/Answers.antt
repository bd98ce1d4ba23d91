use Rattle.pathfinder.proofs.Prelude.{◌≡◌, ◌∙◌, ℕ, List, [], Ok, length, arith, sym, ap, subst, with_items, with_items_is, NewTrees, rerouted_trees, wiring_of, Tells}
use Rattle.pathfinder.proofs.NextTrees.{round, past, routed, found, found_none}
use Rattle.pathfinder.proofs.state.State.reroute.Goals as goal

pub rates_of-requires : goal.rates_of-requires
rates_of-requires g c =
    rw c.deref.ensures.value (past (g.G.StripGraph.basis c.args.graph.now) c.laws.ensures.lawful c.laws.ensures.few c.laws_of_paths.ensures c.args.self.now c.requires)

pub invariant_of-round : goal.invariant_of-round
invariant_of-round g c = record {
  lawful = rw c.deref-3.ensures.value (round (g.G.StripGraph.basis c.args.graph.now) c.laws.ensures.lawful c.laws.ensures.few c.laws_of_paths.ensures c.args.self.now c.requires);
  laid = c.in_ok-layout.ensures;
  rated = rw (c.deref-3.ensures.value, c.deref-2.ensures.value) (rw c.deref.ensures.value at c.in_ok-rates.ensures);
}

pub reroute-requires : goal.reroute-requires
reroute-requires g c =
    let same : c.deref_mut.result.now ≡ c.args.self.now.held.items = c.deref_mut.ensures.value ∙ (c.in_ok-held.ensures.items ∙ c.deref-4.ensures.value) in
    rw (c.deref-5.ensures.value, same, c.deref-6.ensures.value) (routed (g.G.StripGraph.basis c.args.graph.now) c.laws.ensures.lawful c.laws.ensures.few c.laws_of_paths.ensures c.args.self.now c.requires)

pub returns-in-Ok : goal.returns-in-Ok
returns-in-Ok g c =
    let basis = g.G.StripGraph.basis c.args.graph.now in
    let s = c.args.self.now in
    let new : NewTrees = record { routes = c.in-Ok.routes; held = with_items c.in_ok-held.held c.reroute.new.held; rates = c.in_ok-rates.rates } in
    let same : c.deref_mut.result.now ≡ s.held.items = c.deref_mut.ensures.value ∙ (c.in_ok-held.ensures.items ∙ c.deref-4.ensures.value) in
    let written : new.held.items ≡ c.reroute.new.held = with_items_is c.in_ok-held.held c.reroute.new.held (omega (arith, c.in_ok-routes.ensures.long, c.deref_mut.ensures.len)) in
    let long : length new.held.items ≡ length s.held.items = ap (λ (xs : List ℕ). length xs) written ∙ (c.in_ok-routes.ensures.long ∙ ap (λ (xs : List ℕ). length xs) same) in
    let trees = rw c.in-Ok.is at c.in_ok-routes.ensures.trees in
    let is : rerouted_trees (wiring_of basis) s.iterations s.history.items [] s.nets.items s.routes.items ≡ Ok new.routes.items = rw (c.deref-3.ensures.value, c.deref-5.ensures.value, c.deref-6.ensures.value) at trees.0 in
    found basis c.laws.ensures.lawful c.laws.ensures.few c.laws_of_paths.ensures s c.requires new long (is, subst (λ (held : List ℕ). Tells (wiring_of basis) held new.routes.items) (sym written) trees.1) (rw c.deref.ensures.value at c.in_ok-rates.ensures)

pub returns-in-Err : goal.returns-in-Err
returns-in-Err g c =
    let none = rw c.in-Err.is at c.in_ok-routes.ensures.trees in
    found_none (g.G.StripGraph.basis c.args.graph.now) c.laws.ensures.lawful c.laws.ensures.few c.laws_of_paths.ensures c.args.self.now c.requires c.in-Err.net
    (rw (c.deref-3.ensures.value, c.deref-5.ensures.value, c.deref-6.ensures.value) at none)
