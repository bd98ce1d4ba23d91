-- The wires on the ways to the nodes of a route, node by node.
use Rattle.path_wires.proofs.Prelude.{ℕ, ◌≡◌, ◌+◌, ◌<◌, ◌≤◌, ◌∙◌, ◌⊎◌, List, [], ◌∷◌, ◌++◌, length, take, sym, refl, ap, subst, arith, inl, inr, take-length, cases_lt, get_or_append_left, get_or_push, length-append, take-append-le, RouteNode, AreSmall, AreUpTo, depth_at, wires_at}

-- one more is added
pub up_to_more : (nodes : List RouteNode) (depths : List ℕ) (count depth : ℕ) → length depths ≡ count → depth ≡ depth_at nodes depths count → AreUpTo nodes depths count
    → AreUpTo nodes (depths ++ depth ∷ []) (count + 1)
up_to_more nodes depths count depth long is each place few =
    let same : take place (depths ++ depth ∷ []) ≡ take place depths = take-append-le place depths (depth ∷ []) (omega arith) in
    elim (cases_lt place count) [
      | inl low ↦ get_or_append_left depths (depth ∷ []) 0 place (omega arith) ∙ (each place low ∙ ap (λ xs. depth_at nodes xs place) (sym same))
      | inr at ↦
          let here : place ≡ count = omega arith in
          let all : take place depths ≡ depths = ap (λ n. take n depths) (here ∙ sym long) ∙ take-length depths in
          get_or_push depths depth 0 place (long ∙ sym here) ∙ (is ∙ (ap (λ n. depth_at nodes depths n) (sym here) ∙ ap (λ xs. depth_at nodes xs place) (sym (same ∙ all))))
    ]

pub small_more : (depths : List ℕ) (count depth : ℕ) → length depths ≡ count → depth ≤ count → AreSmall depths → AreSmall (depths ++ depth ∷ [])
small_more depths count depth long few small place within =
    elim (cases_lt place count) [
      | inl low ↦
          let e : wires_at (depths ++ depth ∷ []) place ≡ wires_at depths place = get_or_append_left depths (depth ∷ []) 0 place (omega arith) in
          let a : wires_at depths place ≤ place = small place (omega arith) in
          omega arith
      | inr at ↦
          let many : length (depths ++ depth ∷ []) ≡ length depths + 1 = omega (arith, length-append depths (depth ∷ [])) in
          let here : place ≡ count = omega arith in
          let e : wires_at (depths ++ depth ∷ []) place ≡ depth = get_or_push depths depth 0 place (long ∙ sym here) in
          omega arith
    ]
