use Rattle.fabric_planes.proofs.Prelude.{◌≡◌, ◌∙◌, ℕ, ◌+◌, ◌*◌, sym, ap, arith, length, List, subst, inl, inr, Node, IsWire, graph_of, place_of, place_count, IsWireAt}
use Rattle.fabric_planes.proofs.Priced.{spot_low, by_place_low}
use Rattle.fabric_planes.proofs.strip_planes.StripPlanes.spot_of.Goals as goal

pub returns-in-ChanX-clause-wire : goal.returns-in-ChanX-clause-wire
returns-in-ChanX-clause-wire g c =
    let basis = g.G.StripGraph.basis c.args.self.now.graph.now in
    let node = c.node-node.result in
    let along : IsWire node.kind = elim c.in-ChanX.is [
      | inl e ↦ subst IsWire (sym e) tt
      | inr e ↦ subst IsWire (sym e) tt
    ] in
    let wire : IsWireAt basis c.args.number = record { within = c.requires; wire = subst (λ (v : Node). IsWire v.kind) c.node-node.ensures along } in
    let at : c.place-place.result ≡ place_of basis node = c.place-place.ensures.value basis c.args.self.now.laid.shape in
    let tracks = c.args.self.now.layout.now.shape.tracks in
    let is : node.n * length c.as_slice-places.result.now + c.place-place.result ≡ ((graph_of basis).node c.args.number).n * place_count basis + place_of basis ((graph_of basis).node c.args.number) =
    ap (λ (p : ℕ). node.n * length c.as_slice-places.result.now + p) at
    ∙ (ap (λ (m : ℕ). node.n * m + place_of basis node) (ap (λ (xs : List ℕ). length xs) c.as_slice-places.ensures.value ∙ c.args.self.now.laid.firsts.long)
    ∙ ap (λ (v : Node). v.n * place_count basis + place_of basis v) c.node-node.ensures) in
    let is_by_place : c.place-place.result * tracks + node.n ≡ place_of basis ((graph_of basis).node c.args.number) * basis.arch.tracks + ((graph_of basis).node c.args.number).n =
    ap (λ (p : ℕ). p * tracks + node.n) at
    ∙ (ap (λ (m : ℕ). place_of basis node * m + node.n) c.args.self.now.laid.shape.tracks
    ∙ ap (λ (v : Node). place_of basis v * basis.arch.tracks + v.n) c.node-node.ensures) in
    record {
      wire = wire;
      is = is;
      low = omega (arith, spot_low c.laws.ensures.basis c.args.number wire, is);
      is_by_place = is_by_place;
      low_by_place = omega (arith, by_place_low c.laws.ensures.basis c.args.number wire, is_by_place);
    }
