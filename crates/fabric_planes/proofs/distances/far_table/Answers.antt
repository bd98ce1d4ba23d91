use Rattle.fabric_planes.proofs.Prelude.{◌≡◌, ℕ, ◌+◌, ◌/◌, ◌%◌, ◌++◌, ◌∷◌, [], ◌∙◌, List, map, sym, ap, arith, range_with_len, map-range_with_len_more, far_at}
use Rattle.fabric_planes.proofs.distances.far_table.Goals as goal

pub loop-at-preserved : goal.loop-at-preserved
loop-at-preserved c =
    let at = c.loop-at.at in
    let f : ℕ → ℕ = λ at. far_at c.args.target (c.args.shape.width + 3) (c.args.shape.rows + 2) (at / c.stride-stride.result) (at % c.stride-stride.result) in
    let none : 0 + at ≡ at = omega arith in
    c.in_ok-push.ensures.items
    ∙ (ap (λ (items : List ℕ). items ++ c.far_at.result ∷ []) c.loop-at.invariant
    ∙ (ap (λ (v : ℕ). map f (range_with_len 0 at) ++ v ∷ []) c.far_at.ensures.value ∙ sym (map-range_with_len_more f 0 at at none)))
