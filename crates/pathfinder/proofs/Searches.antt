-- A search of a net's path over the planes of the strip's graph.
use Rattle.pathfinder.proofs.Prelude.{ℕ, suc, ◌≡◌, ◌<◌, ◌≤◌, ◌^◌, List, [], get_or, sym, subst, arith, All, All-weaker, get_or_past, Tree, Basis, graph_of, Terminals, IsStart, IsNetSearch, Wiring, wiring_of, AreJoined, IsRound, IsTable, IsTreeOn, IsSought, tabled_graph, terminals_of}
use Rattle.pathfinder.proofs.InRange.{tabled_lawful}
use Rattle.pathfinder.proofs.Steps.{step_at, steps_in}

-- a node's cost is within the limits of a search
pub price_few : (basis : Basis) (i : ℕ) (history held : List ℕ) → IsRound (wiring_of basis) i history → IsTable (wiring_of basis).count 8192 held → (node price : ℕ) → node < (wiring_of basis).count → price ≡ (tabled_graph (wiring_of basis) i history held).cost node → price ≤ 2 ^ 36
price_few basis i history held round t node price few e = subst (λ (p : ℕ). p ≤ 2 ^ 36) (sym e) ((tabled_lawful (wiring_of basis) i history held round t).cost_to node few)

-- a net's search at the prices of the tables
pub net_search : (basis : Basis) (i : ℕ) (history held : List ℕ) → IsRound (wiring_of basis) i history → IsTable (wiring_of basis).count 8192 held → (source : ℕ) (starts : List ℕ) (sink : ℕ) (old : List ℕ) → IsSought basis source starts sink old
    → IsNetSearch basis (tabled_graph (wiring_of basis) i history held).cost starts sink (terminals_of basis source sink)
net_search basis i history held round t source starts sink old s = grind (arith, tabled_lawful (wiring_of basis) i history held round t)

-- the starts are nodes of the graph
pub starts_below : (basis : Basis) (t : Terminals) (starts : List ℕ) → All (IsStart basis t) starts → All (λ node. node < (graph_of basis).count) starts
starts_below basis t starts are = All-weaker (IsStart basis t) (λ node. node < (graph_of basis).count) (λ node s. s.within) starts are

-- a path of a tree, or no nodes
pub path_below : (w : Wiring) (tree : Tree) → All (λ path. All (λ node. node < w.count) path) tree → (number : ℕ) → All (λ node. node < w.count) (get_or tree number [])
path_below w tree each number = grind (arith, get_or_past)

-- the edges of a path of a tree, or of no nodes
pub path_joined : (w : Wiring) (tree : Tree) → IsTreeOn w tree → (number : ℕ) → AreJoined w.ends (get_or tree number [])
path_joined w tree on number = λ place l. on.edges (get_or (get_or tree number []) place 0) (get_or (get_or tree number []) (suc place) 0)
    (steps_in tree number (get_or (get_or tree number []) place 0, get_or (get_or tree number []) (suc place) 0) (step_at (get_or tree number []) place l))
