-- Switches, each once, path by path.
use Rattle.configuration_text.proofs.Prelude.{get_or, ◌≡◌, ℕ, suc, zero, ◌+◌, ◌<◌, ◌≤◌, Bool, true, false, ◌&&◌, not, List, [], ◌∷◌, ◌++◌, cond, drop, filter, length, map, sym, ap, refl, ◌∙◌, subst, arith, append_assoc, append-nil, Some, slice_get, list_any, same_Some, each_once, is_same_edge, is_switch, line_words, lines_text, Switch, pairs_of, steps_of, Node, line_of}

-- the lines of edges
abbrev pub edges_text : List (Node × Node) → List ℕ
edges_text edges = lines_text (map (λ (edge : Node × Node). Switch edge.0 edge.1) edges)

pub step_cons : (path : List Node) (i : ℕ) (d : Node) → i + 1 < length path → steps_of (drop i path) ≡ (get_or path i d, get_or path (i + 1) d) ∷ steps_of (drop (i + 1) path)
step_cons [] i d h = absurd (omega (arith, h))
step_cons (a ∷ []) i d h = absurd (omega (arith, h))
step_cons (a ∷ b ∷ rest) zero d h = refl
step_cons (a ∷ b ∷ rest) (suc i) d h =
    let e : suc i + 1 ≡ suc (i + 1) = omega arith in
    subst (λ n. steps_of (drop i (b ∷ rest)) ≡ (get_or (b ∷ rest) i d, get_or (a ∷ b ∷ rest) n d) ∷ steps_of (drop n (a ∷ b ∷ rest))) (sym e) (step_cons (b ∷ rest) i d (omega (arith, h)))

pub step_end : (path : List Node) (i : ℕ) → length path ≤ i + 1 → steps_of (drop i path) ≡ []
step_end [] zero h = refl
step_end [] (suc i) h = refl
step_end (a ∷ []) zero h = refl
step_end (a ∷ []) (suc i) h = step_end [] i (omega arith)
step_end (a ∷ b ∷ rest) zero h = absurd (omega (arith, h))
step_end (a ∷ b ∷ rest) (suc i) h = step_end (b ∷ rest) i (omega (arith, h))

-- an edge that is not new, and one that is
pub once_old : (seen edges : List (Node × Node)) (edge : Node × Node) → (is_switch edge && not (list_any (is_same_edge edge) seen)) ≡ false → each_once seen (filter is_switch (edge ∷ edges)) ≡ each_once seen (filter is_switch edges)
once_old seen edges edge h = by (is_switch edge) (list_any (is_same_edge edge) seen) refl h
  where
    by : (s : Bool) (o : Bool) → list_any (is_same_edge edge) seen ≡ o → (s && not o) ≡ false → each_once seen (cond s (edge ∷ filter is_switch edges) (filter is_switch edges)) ≡ each_once seen (filter is_switch edges)
    by false o is h = refl
    by true false is h = absurd cc
    by true true is h = ap (λ (b : Bool). cond b (each_once seen (filter is_switch edges)) (edge ∷ each_once (seen ++ edge ∷ []) (filter is_switch edges))) is

pub once_new : (seen edges : List (Node × Node)) (edge : Node × Node) → (is_switch edge && not (list_any (is_same_edge edge) seen)) ≡ true → each_once seen (filter is_switch (edge ∷ edges)) ≡ edge ∷ each_once (seen ++ edge ∷ []) (filter is_switch edges)
once_new seen edges edge h = by (is_switch edge) (list_any (is_same_edge edge) seen) refl h
  where
    by : (s : Bool) (o : Bool) → list_any (is_same_edge edge) seen ≡ o → (s && not o) ≡ true → each_once seen (cond s (edge ∷ filter is_switch edges) (filter is_switch edges)) ≡ edge ∷ each_once (seen ++ edge ∷ []) (filter is_switch edges)
    by false o is h = absurd cc
    by true true is h = absurd cc
    by true false is h = ap (λ (b : Bool). cond b (each_once seen (filter is_switch edges)) (edge ∷ each_once (seen ++ edge ∷ []) (filter is_switch edges))) is

-- what is done and what is left make the whole
pub record IsHalfWritten (path : List Node) (place : ℕ) (text old_text : List ℕ) (seen old_seen : List (Node × Node)) : Type 0 where
  pub lines : text ++ edges_text (each_once seen (filter is_switch (steps_of (drop place path)))) ≡ old_text ++ edges_text (each_once old_seen (filter is_switch (steps_of path)))
  pub edges : seen ++ each_once seen (filter is_switch (steps_of (drop place path))) ≡ old_seen ++ each_once old_seen (filter is_switch (steps_of path))

module _ (path : List Node) (place : ℕ) (d : Node) (text old_text : List ℕ) (seen old_seen : List (Node × Node)) (h : IsHalfWritten path place text old_text seen old_seen) (inside : place + 1 < length path) where
  abbrev edge : Node × Node
  edge = (get_or path place d, get_or path (place + 1) d)

  abbrev rest : List (Node × Node)
  rest = steps_of (drop (place + 1) path)

  pub half_old : (is_switch (get_or path place d, get_or path (place + 1) d) && not (list_any (is_same_edge (get_or path place d, get_or path (place + 1) d)) seen)) ≡ false → IsHalfWritten path (place + 1) text old_text seen old_seen
  half_old is =
      let cons = ap (λ edges. each_once seen (filter is_switch edges)) (step_cons path place d inside) ∙ once_old seen rest edge is in
      record {
        lines = ap (λ edges. text ++ edges_text edges) (sym cons) ∙ h.lines;
        edges = ap (λ edges. seen ++ edges) (sym cons) ∙ h.edges;
      }

  pub half_new : (is_switch (get_or path place d, get_or path (place + 1) d) && not (list_any (is_same_edge (get_or path place d, get_or path (place + 1) d)) seen)) ≡ true → (new_text : List ℕ) (new_seen : List (Node × Node)) →
      new_text ≡ text ++ line_of (line_words (Switch (get_or path place d) (get_or path (place + 1) d))) → new_seen ≡ seen ++ (get_or path place d, get_or path (place + 1) d) ∷ [] → IsHalfWritten path (place + 1) new_text old_text new_seen old_seen
  half_new is new_text new_seen written added =
      let line = line_of (line_words (Switch (get_or path place d) (get_or path (place + 1) d))) in
      let later = each_once (seen ++ edge ∷ []) (filter is_switch rest) in
      let cons : each_once seen (filter is_switch (steps_of (drop place path))) ≡ edge ∷ later = ap (λ edges. each_once seen (filter is_switch edges)) (step_cons path place d inside) ∙ once_new seen rest edge is in
      record {
        lines = ap (λ t. t ++ edges_text (each_once new_seen (filter is_switch rest))) written ∙ ap (λ s. (text ++ line) ++ edges_text (each_once s (filter is_switch rest))) added
            ∙ append_assoc text line (edges_text later) ∙ ap (λ edges. text ++ edges_text edges) (sym cons) ∙ h.lines;
        edges = ap (λ s. s ++ each_once s (filter is_switch rest)) added ∙ append_assoc seen (edge ∷ []) later ∙ ap (λ edges. seen ++ edges) (sym cons) ∙ h.edges;
      }

-- ---- paths

once_append : (seen edges others : List (Node × Node)) → each_once seen (edges ++ others) ≡ each_once seen edges ++ each_once (seen ++ each_once seen edges) others
once_append seen [] others = ap (λ s. each_once s others) (sym (append-nil seen))
once_append seen (edge ∷ edges) others = by (list_any (is_same_edge edge) seen) (once_append seen edges others) (once_append (seen ++ edge ∷ []) edges others)
  where
    by : (b : Bool) → each_once seen (edges ++ others) ≡ each_once seen edges ++ each_once (seen ++ each_once seen edges) others →
        each_once (seen ++ edge ∷ []) (edges ++ others) ≡ each_once (seen ++ edge ∷ []) edges ++ each_once ((seen ++ edge ∷ []) ++ each_once (seen ++ edge ∷ []) edges) others →
        cond b (each_once seen (edges ++ others)) (edge ∷ each_once (seen ++ edge ∷ []) (edges ++ others))
        ≡ cond b (each_once seen edges) (edge ∷ each_once (seen ++ edge ∷ []) edges) ++ each_once (seen ++ cond b (each_once seen edges) (edge ∷ each_once (seen ++ edge ∷ []) edges)) others
    by true same more = same
    by false same more = ap (λ (l : List (Node × Node)). edge ∷ l) (more ∙ ap (λ s. each_once (seen ++ edge ∷ []) edges ++ each_once s others) (append_assoc seen (edge ∷ []) (each_once (seen ++ edge ∷ []) edges)))

filter_append : (xs ys : List (Node × Node)) → filter is_switch (xs ++ ys) ≡ filter is_switch xs ++ filter is_switch ys
filter_append [] ys = refl
filter_append (x ∷ xs) ys = by (is_switch x) (filter_append xs ys)
  where
    by : (b : Bool) → filter is_switch (xs ++ ys) ≡ filter is_switch xs ++ filter is_switch ys → cond b (x ∷ filter is_switch (xs ++ ys)) (filter is_switch (xs ++ ys)) ≡ cond b (x ∷ filter is_switch xs) (filter is_switch xs) ++ filter is_switch ys
    by true rest = ap (λ (l : List (Node × Node)). x ∷ l) rest
    by false rest = rest

text_append : (xs ys : List (Node × Node)) → edges_text (xs ++ ys) ≡ edges_text xs ++ edges_text ys
text_append [] ys = refl
text_append (x ∷ xs) ys = let line = line_of (line_words (Switch x.0 x.1)) in ap (λ t. line ++ t) (text_append xs ys) ∙ sym (append_assoc line (edges_text xs) (edges_text ys))

-- the path at an index, and those after it
pub drop_get : (paths : List (List Node)) (at : ℕ) (path : List Node) → slice_get paths at ≡ Some path → drop at paths ≡ path ∷ drop (at + 1) paths
drop_get [] at path e = absurd cc
drop_get (p ∷ paths) zero path e = ap (λ (x : List Node). x ∷ paths) (same_Some p path e)
drop_get (p ∷ paths) (suc at) path e = let n : suc at + 1 ≡ suc (at + 1) = omega arith in subst (λ n. drop at paths ≡ path ∷ drop n (p ∷ paths)) (sym n) (drop_get paths at path e)

-- what is done and what is left, path by path
abbrev pub IsHalfDrawn : List (List Node) → ℕ → List ℕ → List ℕ → List (Node × Node) → List (Node × Node) → Type 0
IsHalfDrawn paths at text old_text seen old_seen =
    text ++ edges_text (each_once seen (filter is_switch (pairs_of (drop at paths)))) ≡ old_text ++ edges_text (each_once old_seen (filter is_switch (pairs_of paths)))

pub half_path : (paths : List (List Node)) (at : ℕ) (path : List Node) (text old_text : List ℕ) (seen old_seen : List (Node × Node)) → slice_get paths at ≡ Some path → IsHalfDrawn paths at text old_text seen old_seen → (new_text : List ℕ) (new_seen : List (Node × Node)) →
    new_text ≡ text ++ edges_text (each_once seen (filter is_switch (steps_of path))) → new_seen ≡ seen ++ each_once seen (filter is_switch (steps_of path)) → IsHalfDrawn paths (at + 1) new_text old_text new_seen old_seen
half_path paths at path text old_text seen old_seen here h new_text new_seen written added =
    let first = filter is_switch (steps_of path) in
    let later = filter is_switch (pairs_of (drop (at + 1) paths)) in
    let split : filter is_switch (pairs_of (drop at paths)) ≡ first ++ later = ap (λ p. filter is_switch (pairs_of p)) (drop_get paths at path here) ∙ filter_append (steps_of path) (pairs_of (drop (at + 1) paths)) in
    ap (λ t. t ++ edges_text (each_once new_seen later)) written
    ∙ ap (λ s. (text ++ edges_text (each_once seen first)) ++ edges_text (each_once s later)) added
    ∙ append_assoc text (edges_text (each_once seen first)) (edges_text (each_once (seen ++ each_once seen first) later))
    ∙ ap (λ t. text ++ t) (sym (text_append (each_once seen first) (each_once (seen ++ each_once seen first) later)))
    ∙ ap (λ edges. text ++ edges_text edges) (sym (once_append seen first later))
    ∙ ap (λ edges. text ++ edges_text (each_once seen edges)) (sym split)
    ∙ h
