-- Overuse, counted node by node.
use Rattle.pathfinder.proofs.Prelude.{ℕ, ◌≡◌, ◌+◌, ◌<◌, List, Option, None, IfSome, map, [], cond, ltb, suc, zero, refl, sym, ap, subst, arith, ◌∙◌, lt-ltb, length-map-range_with_len, sum_by-map-range_with_len_more, Basis, graph_of, Tree, Routed, Standing, More, next_routing, routing_with_trees, routed_after, IsAfter, RoutingState, IsMost, IsOveruse, count_over, over_in, overuse_at, wiring_of, option_map, Net, Wiring, Tells, Overuse}
use Rattle.std.specs.Prelude.{Result, length}
use Rattle.pathfinder.proofs.Iterations.{none_held}

-- one more node
pub count_more : (over : ℕ → ℕ) (count : ℕ) → count_over over (count + 1) ≡ count_over over count + cond (ltb 0 (over count)) 1 0
count_more over count = sum_by-map-range_with_len_more (λ x. cond {A = ℕ} (ltb 0 x) 1 0) over 0 count count (omega arith)

pub counts_one : (over : ℕ → ℕ) (count nodes : ℕ) → nodes ≡ count_over over count → 0 < over count → nodes + 1 ≡ count_over over (count + 1)
counts_one over count nodes is some = (let one = ap (λ b. cond {A = ℕ} b 1 0) (lt-ltb 0 (over count) some) in omega (arith, is, one, count_more over count))

pub counts_none : (over : ℕ → ℕ) (count nodes : ℕ) → nodes ≡ count_over over count → over count ≡ 0 → nodes ≡ count_over over (count + 1)
counts_none over count nodes is none = (let zero = ap (λ x. cond {A = ℕ} (ltb 0 x) 1 0) none in omega (arith, is, zero, count_more over count))

-- two functions that agree on the first nodes
pub count_same : (over other : ℕ → ℕ) (count : ℕ) → ((node : ℕ) → node < count → over node ≡ other node) → count_over over count ≡ count_over other count
count_same over other zero same = refl
count_same over other (suc count) same =
    let rest = count_same over other count (λ node l. same node (omega (arith, l))) in
    let here = ap (λ x. cond {A = ℕ} (ltb 0 x) 1 0) (same count (omega arith)) in
    let more : count_over over (count + 1) ≡ count_over other (count + 1) = omega (arith, rest, here, count_more over count, count_more other count) in
    let next : count + 1 ≡ suc count = omega arith in
    subst (λ n. count_over over n ≡ count_over other n) next more

pub most_same : (over other : ℕ → ℕ) (count : ℕ) (most : Option ℕ) → ((node : ℕ) → node < count → over node ≡ other node) → IsMost over count most → IsMost other count most
most_same over other count most same is = grind arith

-- the overuse that is computed from the table is that of the trees
pub overuse_told : (basis : Basis) (held : List ℕ) (trees : List Tree) (overuse : Overuse) (number : Option ℕ) → Tells (wiring_of basis) held trees → overuse.nodes ≡ count_over (over_in basis held) (graph_of basis).count →
    IsMost (over_in basis held) (graph_of basis).count number → overuse.most ≡ option_map (graph_of basis).node number → IsOveruse basis trees overuse
overuse_told basis held trees overuse number tells nodes is most = grind (arith, count_same)

-- without trees no node is overused
pub no_overuse : (basis : Basis) (nets : List Net) (overuse : Overuse) → overuse ≡ record { nodes = 0; most = None } → IsOveruse basis (map (λ net. []) nets) overuse
no_overuse basis nets overuse is =
    let over = overuse_at (wiring_of basis) (map (λ net. []) nets) in
    let none : (node : ℕ) → over node ≡ 0 = λ node. omega (arith, none_held nets node) in
    record {
      nodes = ap (λ (o : Overuse). o.nodes) is ∙ sym (counted_none over none (graph_of basis).count);
      number = None;
      is_most = λ node l. none node;
      most = ap (λ (o : Overuse). o.most) is;
    }
  where
    counted_none : (over : ℕ → ℕ) → ((node : ℕ) → over node ≡ 0) → (count : ℕ) → count_over over count ≡ 0
    counted_none over none zero = refl
    counted_none over none (suc count) =
        let next : count + 1 ≡ suc count = omega arith in
        subst (λ n. count_over over n ≡ 0) next (sym (counts_none over count 0 (sym (counted_none over none count)) (none count)))

-- the most overused node is a node of the strip
pub most_within : (over : ℕ → ℕ) (count : ℕ) (most : Option ℕ) → IsMost over count most → IfSome most (λ node. node < count)
most_within over count most is = grind arith

-- the table of accumulated overuse has an entry for each node
long_judged : (w : Wiring) (iterations : ℕ) (routed : Routed) (new : Result (List Tree) ℕ) → length routed.history ≡ w.count → length (routing_with_trees w iterations routed new).history ≡ w.count
long_judged w iterations routed new long = grind (arith, length-map-range_with_len)

long_iterated : (w : Wiring) (nets : List Net) (iterations : ℕ) (routed : Routed) (standing : Standing) → length routed.history ≡ w.count → length (next_routing w nets iterations routed standing).history ≡ w.count
long_iterated w nets iterations routed standing long = grind (arith, long_judged)

pub long_after : (w : Wiring) (nets : List Net) (iterations : ℕ) → length (routed_after w nets iterations).history ≡ w.count
unfolding routed_after
long_after w nets zero = length-map-range_with_len (λ node. 0) 0 w.count
long_after w nets (suc iterations) = long_iterated w nets iterations (routed_after w nets iterations) (routed_after w nets iterations).standing (long_after w nets iterations)

pub long_history : (w : Wiring) (state : RoutingState) → IsAfter w state More → length state.history ≡ w.count
long_history w state after = ap (λ (routed : Routed). length routed.history) (sym after.exact) ∙ long_after w state.nets state.iterations
