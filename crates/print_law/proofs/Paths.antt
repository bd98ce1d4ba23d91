-- Each path of a routing's trees leads along edges to a sink.
use Rattle.print_law.proofs.Prelude.{◌≡◌, ℕ, zero, suc, refl, ◌+◌, List, [], ◌∷◌, ◌++◌, length, map, fold, drop, Option, Some, None, Result, Ok, Err, Bool, true, false, cond, ◌==◌, arith, ◌∙◌, ◌⊎◌, inl, inr, sym, ap, subst, All, Contains, flat_map, reduce, option_map_or, min_by_ordering, Ordering, Less, Equal, Greater, nat_tests, All-nil, All-cons, All-head, All-tail, All-map, All-append, Graph, least_path, short_paths, ways, path_cmp, from_append, from_flat_map, from_map, in_cases, in_first, in_later, in_none, Tree, Standing, More, Done, GaveUp, NoPath, grown_tree, next_routing, priced_graph, rerouted_trees, routed_after, routing_with_trees, starts_of, is_feasible, accumulated_overuse, Wiring, IsNet, MAX_ITERATIONS, Sink}
use Rattle.std.specs.Option.{option_and_then}
use Rattle.pathfinder.specs.Negotiation.{Routed}
use Rattle.pathfinder.specs.Wiring.{Net}

-- a fold that keeps one of two has one of the items
kept : {X : Type 0} (f : X → X → X) → ((a b : X) → (f a b ≡ a) ⊎ (f a b ≡ b)) → (x : X) (xs : List X) → Contains (x ∷ xs) (fold f x xs)
kept f picks x [] = in_first x []
kept {X} f picks x (y ∷ xs) = elim (picks x y) [
  | inl e ↦ subst (λ (z : X). Contains (x ∷ y ∷ xs) (fold f z xs)) (sym e) (elim (in_cases x (fold f x xs) xs (kept f picks x xs)) [
    | inl same ↦ subst (λ (z : X). Contains (x ∷ y ∷ xs) z) same (in_first x (y ∷ xs))
    | inr c ↦ in_later x (fold f x xs) (y ∷ xs) (in_later y (fold f x xs) xs c)
  ])
  | inr e ↦ subst (λ (z : X). Contains (x ∷ y ∷ xs) (fold f z xs)) (sym e) (in_later x (fold f y xs) (y ∷ xs) (kept f picks y xs))
]

lesser : {X : Type 0} (order : Ordering) (a b : X) → (min_by_ordering order a b ≡ a) ⊎ (min_by_ordering order a b ≡ b)
lesser Less a b = inl refl
lesser Equal a b = inl refl
lesser Greater a b = inr refl

reduced : {X : Type 0} (f : X → X → X) → ((a b : X) → (f a b ≡ a) ⊎ (f a b ≡ b)) → (xs : List X) (x : X) → reduce f xs ≡ Some x → Contains xs x
reduced f picks [] x h = absurd cc
reduced {X} f picks (first ∷ xs) x h = let is : fold f first xs ≡ x = cc in subst (λ (z : X). Contains (first ∷ xs) z) is (kept f picks first xs)

module _ (w : Wiring) where
  -- the path leads along edges to a sink
  abbrev pub LeadsToSink : List ℕ → Type 0
  LeadsToSink [] = ⊥
  LeadsToSink (node ∷ []) = w.kind node ≡ Sink
  LeadsToSink (node ∷ next ∷ rest) = Contains (w.ends node) next × LeadsToSink (next ∷ rest)

  abbrev priced : (ℕ → ℕ) → Graph
  priced cost = record { count = w.count; ends = w.ends; cost = cost }

  module _ (cost : ℕ → ℕ) (goal : ℕ) (sink : w.kind goal ≡ Sink) where
    at_goal : (node : ℕ) (rest : List ℕ) (b : Bool) → (node == goal) ≡ b → Contains (cond b ([] ∷ []) []) rest → LeadsToSink (node ∷ rest)
    at_goal node rest true is c = elim (in_cases [] rest [] c) [
      | inl e ↦ (let same : node ≡ goal = grind (arith, nat_tests, is) in subst (λ (r : List ℕ). LeadsToSink (node ∷ r)) e (ap w.kind same ∙ sink))
      | inr d ↦ absurd (in_none rest d)
    ]
    at_goal node rest false is c = absurd (in_none rest c)

    way_leads : (more node : ℕ) (rest : List ℕ) → Contains (ways (priced cost) goal more node) rest → LeadsToSink (node ∷ rest)
    way_leads zero node rest c = at_goal node rest (node == goal) refl c
    way_leads (suc more) node rest c =
        elim (from_append (cond (node == goal) ([] ∷ []) []) (flat_map (λ next. map (λ rest. next ∷ rest) (ways (priced cost) goal more next)) (w.ends node)) rest c) [
          | inl d ↦ at_goal node rest (node == goal) refl d
          | inr d ↦
              (let q = from_flat_map (λ next. map (λ rest. next ∷ rest) (ways (priced cost) goal more next)) (w.ends node) rest d in
              let r = from_map (λ rest. q.0 ∷ rest) (ways (priced cost) goal more q.0) rest q.2 in
              subst (λ (r : List ℕ). LeadsToSink (node ∷ r)) r.2 (q.1, way_leads more q.0 r.0 r.1))
        ]

    path_leads : (starts path : List ℕ) → least_path (priced cost) starts goal ≡ Some path → LeadsToSink path
    unfolding least_path short_paths
    path_leads starts path h =
        let c = reduced (λ p q. min_by_ordering (path_cmp (priced cost) p q) p q) (λ p q. lesser (path_cmp (priced cost) p q) p q) (short_paths (priced cost) starts goal) path h in
        let q = from_flat_map (λ start. map (λ rest. start ∷ rest) (ways (priced cost) goal w.count start)) starts path c in
        let r = from_map (λ rest. q.0 ∷ rest) (ways (priced cost) goal w.count q.0) path q.2 in
        subst (λ (p : List ℕ). LeadsToSink p) r.2 (way_leads w.count q.0 r.0 r.1)

  abbrev pub IsWhole : Tree → Type 0
  IsWhole tree = All LeadsToSink tree

  module _ (i : ℕ) (history : List ℕ) where
    grown_whole : (others : List Tree) (source : ℕ) (sinks : List ℕ) (tree : Tree) → IsWhole tree → All (λ sink. w.kind sink ≡ Sink) sinks → (t : Tree) → grown_tree w i history others source tree sinks ≡ Some t → IsWhole t
    grown_whole others source [] tree whole kinds t h = let same : tree ≡ t = cc in subst IsWhole same whole
    grown_whole others source (sink ∷ sinks) tree whole kinds t h = by (least_path (priced_graph w i history (tree ∷ others)) (starts_of w source tree) sink) refl (λ path all. grown_whole others source sinks (tree ++ path ∷ []) all further t) h
      where
        kind : w.kind sink ≡ Sink
        kind = All-head (λ sink. w.kind sink ≡ Sink) sink sinks kinds

        further : All (λ sink. w.kind sink ≡ Sink) sinks
        further = All-tail (λ sink. w.kind sink ≡ Sink) sink sinks kinds

        by : (o : Option (List ℕ)) → least_path (priced_graph w i history (tree ∷ others)) (starts_of w source tree) sink ≡ o → ((path : List ℕ) → IsWhole (tree ++ path ∷ []) → grown_tree w i history others source (tree ++ path ∷ []) sinks ≡ Some t → IsWhole t) →
            option_and_then (λ path. grown_tree w i history others source (tree ++ path ∷ []) sinks) o ≡ Some t → IsWhole t
        by None is grows found = absurd cc
        by (Some path) is grows found =
            let leads = path_leads (priced_graph w i history (tree ∷ others)).cost sink kind (starts_of w source tree) path is in
            grows path (All-append LeadsToSink tree (path ∷ []) whole (All-cons LeadsToSink path [] leads (All-nil LeadsToSink))) found

    rerouted_whole : (nets : List Net) (new old : List Tree) → All IsWhole new → All (IsNet w) nets → (trees : List Tree) → rerouted_trees w i history new nets old ≡ Ok trees → All IsWhole trees
    rerouted_whole [] new old whole each trees h = let same : new ≡ trees = cc in subst (λ (t : List Tree). All IsWhole t) same whole
    rerouted_whole (net ∷ nets) new old whole each trees h = by (grown_tree w i history (new ++ drop 1 old) net.source [] net.sinks) refl (λ tree all. rerouted_whole nets (new ++ tree ∷ []) (drop 1 old) all (All-tail (IsNet w) net nets each) trees) h
      where
        by : (o : Option Tree) → grown_tree w i history (new ++ drop 1 old) net.source [] net.sinks ≡ o →
            ((tree : Tree) → All IsWhole (new ++ tree ∷ []) → rerouted_trees w i history (new ++ tree ∷ []) nets (drop 1 old) ≡ Ok trees → All IsWhole trees) →
            option_map_or (λ tree. rerouted_trees w i history (new ++ tree ∷ []) nets (drop 1 old)) o (Err (length new)) ≡ Ok trees → All IsWhole trees
        by None is goes_on found = absurd cc
        by (Some tree) is goes_on found =
            let grown = grown_whole (new ++ drop 1 old) net.source net.sinks [] (All-nil LeadsToSink) (All-head (IsNet w) net nets each).sinks tree is in
            goes_on tree (All-append IsWhole new (tree ∷ []) whole (All-cons IsWhole tree [] grown (All-nil IsWhole))) found

  module _ (nets : List Net) (each : All (IsNet w) nets) where
    next_whole : (i : ℕ) (routed : Routed) (standing : Standing) → All IsWhole routed.trees → All IsWhole (next_routing w nets i routed standing).trees
    next_whole i routed More whole = by (rerouted_trees w i routed.history [] nets routed.trees) refl
      where
        either : (b : Bool) (trees : List Tree) → All IsWhole trees →
            All IsWhole (cond {A = Routed} b (record { trees = trees; history = routed.history; standing = Done }) (record { trees = trees; history = accumulated_overuse w routed.history trees; standing = cond (i + 1 == MAX_ITERATIONS) GaveUp More })).trees
        either true trees all = all
        either false trees all = all

        by : (r : Result (List Tree) ℕ) → rerouted_trees w i routed.history [] nets routed.trees ≡ r → All IsWhole (routing_with_trees w i routed r).trees
        by (Err net) is = whole
        by (Ok trees) is = either (is_feasible w trees) trees (rerouted_whole i routed.history nets [] routed.trees (All-nil IsWhole) each trees is)
    next_whole i routed Done whole = whole
    next_whole i routed GaveUp whole = whole
    next_whole i routed (NoPath net) whole = whole

    -- whatever the number of iterations
    pub always_whole : (iterations : ℕ) → All IsWhole (routed_after w nets iterations).trees
    unfolding routed_after
    always_whole zero = All-map IsWhole (λ net. []) nets (λ k d small. All-nil LeadsToSink)
    always_whole (suc iterations) = next_whole iterations (routed_after w nets iterations) (routed_after w nets iterations).standing (always_whole iterations)
