use Rattle.fabric_planes.proofs.Prelude.{◌≡◌, ℕ, ◌+◌, ◌-◌, ◌<◌, Bool, List, [], ◌∷◌, ◌++◌, length, map, take, append_assoc, sym, ap, ◌∙◌, subst, arith, filter, slice_index_or, length-map, get_or-map, map-append, take_more, Contains-get_or, filter-append, Basis, IsRoutingGraph, graph_of, View, row_from, seen_from, place_of, shows}
use Rattle.fabric_planes.proofs.shaped_graph.ShapedGraph.add_ends.Goals as goal

-- an end by its number in the list
listed_at : (list all : List ℕ) (base k : ℕ) → map (λ end. end + base) list ≡ all → k < length list → slice_index_or list k 0 + base ≡ slice_index_or all k 0
listed_at list all base k e l = sym (ap (λ (xs : List ℕ). slice_index_or xs k 0) (sym e) ∙ get_or-map (λ (end : ℕ). end + base) list k 0 0 l)

listed_low : (basis : Basis) → IsRoutingGraph basis (graph_of basis) → (wire : ℕ) → wire < (graph_of basis).count → (list : List ℕ) (base k : ℕ) → map (λ end. end + base) list ≡ (graph_of basis).ends wire → k < length list
    → slice_index_or list k 0 + base < (graph_of basis).count
listed_low basis lawful wire within list base k e l =
    let all = (graph_of basis).ends wire in
    let long : length all ≡ length list = ap length (sym e) ∙ length-map list (λ (end : ℕ). end + base) in
    let c = Contains-get_or all k 0 (omega (arith, l, long)) in
    subst (λ (v : ℕ). v < (graph_of basis).count) (sym (listed_at list all base k e l)) ((lawful.pairs wire (slice_index_or all k 0) within).0 c).0

rows_joined : (basis : Basis) (view : View) (base : ℕ) (xs ys : List ℕ) → row_from basis view base (xs ++ ys) ≡ row_from basis view base xs ++ row_from basis view base ys
rows_joined basis view base xs ys =
    let node = (graph_of basis).node in
    let shown : ℕ → Bool = λ (k : ℕ). shows basis.strip (seen_from view.node) view.track (node k).kind (node k) in
    let place : ℕ → ℕ = λ (k : ℕ). place_of basis (node k) in
    let less : ℕ → ℕ = λ (p : ℕ). p - base in
    ap (λ (zs : List ℕ). map less (map place zs)) (filter-append shown xs ys)
    ∙ (ap (map less) (map-append place (filter shown xs) (filter shown ys)) ∙ map-append less (map place (filter shown xs)) (map place (filter shown ys)))

pub overflow_add-end : goal.overflow_add-end
overflow_add-end g c =
    omega (arith, listed_low (g.G.StripGraph.basis c.args.self.now.graph.now) c.laws.ensures.lawful c.args.number c.requires.within c.ends-ends.result.list.now c.ends-ends.result.base c.loop-end.end-index c.ends-ends.ensures (c.loop-end-test.true), c.laws.ensures.few)

pub add_end-requires : goal.add_end-requires
add_end-requires g c =
    record { within = listed_low (g.G.StripGraph.basis c.args.self.now.graph.now) c.laws.ensures.lawful c.args.number c.requires.within c.ends-ends.result.list.now c.ends-ends.result.base c.loop-end.end-index c.ends-ends.ensures (c.loop-end-test.true) }

pub loop-end-preserved : goal.loop-end-preserved
loop-end-preserved g c =
    let basis = g.G.StripGraph.basis c.args.self.now.graph.now in
    let all = (graph_of basis).ends c.args.number in
    let list = c.ends-ends.result.list.now in
    let k = c.loop-end.end-index in
    let row : List ℕ → List ℕ = row_from basis c.args.view c.base_of-base.result in
    let old = c.args.list.now.items in
    let long : length all ≡ length list = ap length (sym c.ends-ends.ensures) ∙ length-map list (λ (end : ℕ). end + c.ends-ends.result.base) in
    let less : k < length all = omega (arith, long, c.loop-end-test.true) in
    let at = listed_at list all c.ends-ends.result.base k c.ends-ends.ensures (c.loop-end-test.true) in
    let more : take (k + 1) all ≡ take k all ++ slice_index_or all k 0 ∷ [] = take_more all k 0 less in
    c.in_ok-add_end.ensures
    ∙ (ap (λ (xs : List ℕ). xs ++ row ((slice_index_or list k 0 + c.ends-ends.result.base) ∷ [])) c.loop-end.invariant
    ∙ (append_assoc old (row (take k all)) (row ((slice_index_or list k 0 + c.ends-ends.result.base) ∷ []))
    ∙ ap (λ (xs : List ℕ). old ++ xs) (ap (λ (v : ℕ). row (take k all) ++ row (v ∷ [])) at ∙ (sym (rows_joined basis c.args.view c.base_of-base.result (take k all) (slice_index_or all k 0 ∷ [])) ∙ sym (ap row more)))))
