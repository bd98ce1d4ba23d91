use Rattle.fabric_planes.proofs.Prelude.{◌≡◌, ℕ, ◌+◌, ◌++◌, ◌∷◌, [], ◌∙◌, List, map, sym, ap, arith, range_with_len, map-range_with_len_more, apart_at}
use Rattle.fabric_planes.proofs.shaped_graph.ShapedGraph.aparts.Goals as goal

pub loop-at-preserved : goal.loop-at-preserved
loop-at-preserved g c =
    let at = c.loop-at.at in
    let f : ℕ → ℕ = apart_at (g.G.StripGraph.basis c.args.self.now.graph.now) in
    let none : 0 + at ≡ at = omega arith in
    c.in_ok-push.ensures.items
    ∙ (ap (λ (items : List ℕ). items ++ c.apart_at.result ∷ []) c.loop-at.invariant
    ∙ (ap (λ (v : ℕ). map f (range_with_len 0 at) ++ v ∷ []) c.apart_at.ensures ∙ sym (map-range_with_len_more f 0 at at none)))
