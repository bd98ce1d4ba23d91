-- Paths by the numbers of their nodes.
use Rattle.layout_check.proofs.Prelude.{◌≡◌, ◌≢◌, ℕ, zero, suc, ◌+◌, ◌-◌, ◌<◌, ◌≤◌, Bool, true, false, not, List, [], ◌∷◌, ◌++◌, map, take, drop, get_or, length, eqb, eq-eqb, sym, ap, refl, ◌∙◌, subst, arith, inl, inr, ◌⊎◌, All, Contains, flat_map, list_any, false≢true, eqb-true, drop_at, get_or_default, length-map, map-append, take_all, take_more, append-nil, flat_map-cons, All-append, All-contains, All-more, All-take, Contains-get_or, same_truth, all_members, from_any, from_append, from_flat_map, from_map, in_cases, in_first, in_later, in_none, to_any, to_append_left, to_append_right, to_flat_map, to_map, Node, is_edge, is_node, Basis, IsRoutingGraph, RoutingGraph, graph_of, pairs_of, path_nodes, steps_of, number_of, number_found, IsNumbered, hop_of}
use Rattle.std.proofs.lemmas.List.{length-append, append_assoc}
use Rattle.std.proofs.lemmas.List.Concat.{flat_map-append}

-- ---- edges

module _ (basis : Basis) (lawful : IsRoutingGraph basis (graph_of basis)) (from to : ℕ) (from_in : from < (graph_of basis).count) (to_in : to < (graph_of basis).count) (list : List ℕ) (base : ℕ)
    (ends : map (λ end. end + base) list ≡ (graph_of basis).ends from) where
  below : to < base → false ≡ is_edge basis.arch basis.strip ((graph_of basis).node from) ((graph_of basis).node to)
  below less = same_truth false (is_edge basis.arch basis.strip ((graph_of basis).node from) ((graph_of basis).node to)) (λ never. absurd (false≢true never)) (λ edge.
      let there = (lawful.pairs from to from_in).1 (to_in, edge) in
      let q = from_map (λ end. end + base) list to (subst (λ xs. Contains xs to) (sym ends) there) in
      let e = q.2 in absurd (omega (arith, e, less)))

  listed : base ≤ to → list_any (λ other. eqb other (to - base)) list ≡ is_edge basis.arch basis.strip ((graph_of basis).node from) ((graph_of basis).node to)
  listed more = same_truth (list_any (λ other. eqb other (to - base)) list) (is_edge basis.arch basis.strip ((graph_of basis).node from) ((graph_of basis).node to))
      (λ yes.
      let q = from_any (λ other. eqb other (to - base)) list yes in
      let e = eqb-true q.0 (to - base) q.2 in
      let at : q.0 + base ≡ to = omega (arith, e, more) in
      ((lawful.pairs from to from_in).0 (subst (λ xs. Contains xs to) ends (subst (λ n. Contains (map (λ end. end + base) list) n) at (to_map (λ end. end + base) list q.0 q.1)))).1)
      (λ edge.
      let there = (lawful.pairs from to from_in).1 (to_in, edge) in
      let q = from_map (λ end. end + base) list to (subst (λ xs. Contains xs to) (sym ends) there) in
      let e = q.2 in
      let at : q.0 ≡ to - base = omega (arith, e) in
      to_any (λ other. eqb other (to - base)) list q.0 q.1 (eq-eqb q.0 (to - base) at))

pub edge_below : (basis : Basis) → IsRoutingGraph basis (graph_of basis) → (from to : ℕ) → from < (graph_of basis).count → to < (graph_of basis).count → (list : List ℕ) (base : ℕ) →
    map (λ end. end + base) list ≡ (graph_of basis).ends from → to < base → false ≡ is_edge basis.arch basis.strip ((graph_of basis).node from) ((graph_of basis).node to)
edge_below = below

pub edge_listed : (basis : Basis) → IsRoutingGraph basis (graph_of basis) → (from to : ℕ) → from < (graph_of basis).count → to < (graph_of basis).count → (list : List ℕ) (base : ℕ) →
    map (λ end. end + base) list ≡ (graph_of basis).ends from → base ≤ to → list_any (λ other. eqb other (to - base)) list ≡ is_edge basis.arch basis.strip ((graph_of basis).node from) ((graph_of basis).node to)
edge_listed = listed

-- ---- hops of a path

pub steps_short : (xs : List ℕ) → length xs < 2 → steps_of xs ≡ []
steps_short [] few = refl
steps_short (x ∷ []) few = refl
steps_short (x ∷ y ∷ xs) few = absurd (omega (arith, few))

pub length_steps : (xs : List ℕ) → length (steps_of xs) ≡ length xs - 1
length_steps [] = refl
length_steps (x ∷ []) = refl
length_steps (x ∷ y ∷ xs) = let rest = length_steps (y ∷ xs) in omega (arith, rest)

pub step_at : (xs : List ℕ) (i : ℕ) → i + 1 < length xs → get_or (steps_of xs) i (0, 0) ≡ (get_or xs i 0, get_or xs (i + 1) 0)
step_at [] i small = absurd (omega (arith, small))
step_at (x ∷ []) i small = absurd (omega (arith, small))
step_at (x ∷ y ∷ xs) zero small = refl
step_at (x ∷ y ∷ xs) (suc i) small = search (step_at (y ∷ xs) i (omega (arith, small)), arith)

-- one more hop
pub hops_more : (old now next : List (ℕ × ℕ)) (xs : List ℕ) (i : ℕ) → now ≡ old ++ take i (steps_of xs) → i + 1 < length xs → next ≡ now ++ (get_or xs i 0, get_or xs (i + 1) 0) ∷ [] → next ≡ old ++ take (i + 1) (steps_of xs)
hops_more old now next xs i is small next_is = grind (arith, append_assoc, step_at, take_more, length_steps xs, append_assoc old (take i (steps_of xs)) ((get_or xs i 0, get_or xs (i + 1) 0) ∷ []), step_at xs i small)

pub hops_all : (xs : List ℕ) (i : ℕ) → length xs - 1 ≤ i → take i (steps_of xs) ≡ steps_of xs
hops_all xs i end = let long = length_steps xs in take_all i (steps_of xs) (omega (arith, long, end))

-- ---- numbers of nodes

module _ (basis : Basis) (lawful : IsRoutingGraph basis (graph_of basis)) where
  -- the number that was found is the node's
  own_number : (node : Node) (number : ℕ) → number < (graph_of basis).count → (graph_of basis).node number ≡ node → number ≡ number_of (graph_of basis) node
  own_number node number small is = sym (number_found (graph_of basis) lawful.ordered number node small is)

  number_in : (node : Node) → is_node basis.arch basis.strip node ≡ true → number_of (graph_of basis) node < (graph_of basis).count
  number_in node there = let q = lawful.all node there in subst (λ k. k < (graph_of basis).count) (own_number node q.0 q.1 q.2) q.1

  node_back : (node : Node) → is_node basis.arch basis.strip node ≡ true → (graph_of basis).node (number_of (graph_of basis) node) ≡ node
  node_back node there = let q = lawful.all node there in subst (λ k. (graph_of basis).node k ≡ node) (own_number node q.0 q.1 q.2) q.2

  number_back : (number : ℕ) → number < (graph_of basis).count → number_of (graph_of basis) ((graph_of basis).node number) ≡ number
  number_back number small = sym (own_number ((graph_of basis).node number) number small refl)

pub its_number : (basis : Basis) → IsRoutingGraph basis (graph_of basis) → (node : Node) (number : ℕ) → number < (graph_of basis).count → (graph_of basis).node number ≡ node → number ≡ number_of (graph_of basis) node
its_number = own_number

pub number_small : (basis : Basis) → IsRoutingGraph basis (graph_of basis) → (node : Node) → is_node basis.arch basis.strip node ≡ true → number_of (graph_of basis) node < (graph_of basis).count
number_small = number_in

pub its_node : (basis : Basis) → IsRoutingGraph basis (graph_of basis) → (node : Node) → is_node basis.arch basis.strip node ≡ true → (graph_of basis).node (number_of (graph_of basis) node) ≡ node
its_node = node_back

pub number_again : (basis : Basis) → IsRoutingGraph basis (graph_of basis) → (number : ℕ) → number < (graph_of basis).count → number_of (graph_of basis) ((graph_of basis).node number) ≡ number
number_again = number_back

-- ---- paths

-- one more item that is mapped
pub map_more : {X Y : Type 0} (f : X → Y) (xs : List X) (i : ℕ) (x : X) (old now next : List Y) → i < length xs → now ≡ old ++ map f (take i xs) → get_or xs i x ≡ x → next ≡ now ++ f x ∷ [] → next ≡ old ++ map f (take (i + 1) xs)
map_more f xs i x old now next small is item next_is = grind (arith, take_more, map-append, append_assoc old (map f (take i xs)) (f x ∷ []), take_more xs i x small, map-append f (take i xs) (x ∷ []))

pub flat_more : {X Y : Type 0} (f : X → List Y) (xs : List X) (i : ℕ) (x : X) → i < length xs → get_or xs i x ≡ x → flat_map f (take (i + 1) xs) ≡ flat_map f (take i xs) ++ f x
flat_more f xs i x small item = grind (arith, flat_map-append, flat_map-cons, append-nil, take_more xs i x small, flat_map-append f (take i xs) (x ∷ []), flat_map-cons f x [], append-nil (f x))

steps_numbered : (g : RoutingGraph) (path : List Node) → steps_of (map (number_of g) path) ≡ map (hop_of g) (steps_of path)
steps_numbered g [] = refl
steps_numbered g (a ∷ []) = refl
steps_numbered g (a ∷ b ∷ path) = ap (λ rest. (number_of g a, number_of g b) ∷ rest) (steps_numbered g (b ∷ path))

-- one more path
pub numbered_more : (basis : Basis) (paths : List (List Node)) (i : ℕ) (path : List Node) (nodes more_nodes : List ℕ) (hops more_hops : List (ℕ × ℕ)) → i < length paths → get_or paths i path ≡ path →
    IsNumbered basis (take i paths) nodes hops → more_nodes ≡ nodes ++ map (number_of (graph_of basis)) path → more_hops ≡ hops ++ steps_of (map (number_of (graph_of basis)) path) →
    All (λ node. is_node basis.arch basis.strip node ≡ true) path → IsNumbered basis (take (i + 1) paths) more_nodes more_hops
numbered_more basis paths i path nodes more_nodes hops more_hops small item so nodes_are hops_are there =
    let g = graph_of basis in
    let at_nodes = flat_more (λ (nodes : List Node). nodes) paths i path small item in
    let at_pairs = flat_more (steps_of {X = Node}) paths i path small item in
    record {
      numbers = nodes_are ∙ ap (λ front. front ++ map (number_of g) path) so.numbers ∙ sym (ap (map (number_of g)) at_nodes ∙ map-append (number_of g) (path_nodes (take i paths)) path);
      pairs = hops_are ∙ ap (λ front. front ++ steps_of (map (number_of g) path)) so.pairs ∙ ap (λ back. map (hop_of g) (pairs_of (take i paths)) ++ back) (steps_numbered g path)
          ∙ sym (ap (map (hop_of g)) at_pairs ∙ map-append (hop_of g) (pairs_of (take i paths)) (steps_of path));
      inside = subst (λ nodes. All (λ node. is_node basis.arch basis.strip node ≡ true) nodes) (sym at_nodes) (All-append (λ node. is_node basis.arch basis.strip node ≡ true) (path_nodes (take i paths)) path so.inside there);
    }

pub numbered_all : (basis : Basis) (paths : List (List Node)) (i : ℕ) (nodes : List ℕ) (hops : List (ℕ × ℕ)) → length paths ≤ i → IsNumbered basis (take i paths) nodes hops → IsNumbered basis paths nodes hops
numbered_all basis paths i nodes hops end so = subst (λ some. IsNumbered basis some nodes hops) (take_all i paths end) so

-- a node of a path
pub on_path : (paths : List (List Node)) (i : ℕ) (path : List Node) (node : Node) → i < length paths → get_or paths i path ≡ path → Contains path node → Contains (path_nodes paths) node
on_path paths i path node small item c = to_flat_map (λ (nodes : List Node). nodes) paths path node (i, small, item) c

-- an item that is read through a reference
pub item_is : {X : Type 0} (xs : List X) (i : ℕ) (item read : X) → read ≡ item → item ≡ get_or xs i item → get_or xs i read ≡ read
item_is xs i item read same is = subst (λ x. get_or xs i x ≡ x) (sym same) (sym is)

-- what holds of each hop by its index
pub each_hop : (P : ℕ → ℕ → Type 0) (hops : List (ℕ × ℕ)) (n : ℕ) → length hops ≤ n → ((k : ℕ) → k < n → P (get_or hops k (0, 0)).0 (get_or hops k (0, 0)).1) → (a b : ℕ) → Contains hops (a, b) → P a b
each_hop P hops n end each a b c = grind (arith, get_or_default)

-- both numbers of a hop are small
pub hop_small : (count : ℕ) (hops : List (ℕ × ℕ)) → All (λ hop. (hop.0 < count) × (hop.1 < count)) hops → (a b : ℕ) → Contains hops (a, b) → (a < count) × (b < count)
hop_small count hops all a b c = All-contains (λ (hop : ℕ × ℕ). (hop.0 < count) × (hop.1 < count)) hops (a, b) all c
