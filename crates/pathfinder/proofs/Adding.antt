-- Trees whose paths add their nodes one after another.
use Rattle.pathfinder.proofs.Prelude.{◌≡◌, ℕ, ◌+◌, ◌<◌, ◌≤◌, List, [], ◌∷◌, ◌++◌, length, map, get_or, take, drop, Bool, true, cond, eqb, ◌||◌, arith, ◌∙◌, ap, All, concat, list_any, slice_index, length-map, get_or-map, length_push, take_at, take-append-le, get_or_append_left, get_or_push, take-append-drop, take_more, list_any-append, All-drop, Span, AreWithin, part_of, Tree, AddsNodes, AreAdded, holds, news_from, times_in, Wiring}
use Rattle.pathfinder.proofs.Found.{any_from, holds_push}
use Rattle.pathfinder.proofs.Iterations.{paths_within}
use Rattle.pathfinder.proofs.Trees.{concat-append}

-- the nodes of a path that are new to the tree of the paths before it
abbrev pub news_at : Tree → ℕ → List ℕ
news_at tree number = drop (news_from (take number tree)) (get_or tree number [])

-- one more path
pub added_push : (tree : Tree) (path : List ℕ) → AreAdded tree → AddsNodes tree path (news_from tree) → AreAdded (tree ++ path ∷ [])
added_push tree path each adds = grind (arith, take-append-le, get_or_append_left, length_push, take_at, get_or_push)

-- the first node of a later path is not new
pub news_later : (tree : Tree) (number : ℕ) → number < length tree → (number ≡ 0 → ⊥) → news_from (take number tree) ≡ 1
news_later tree number l n = grind arith

or_true : (b : Bool) → (b || true) ≡ true
or_true b = grind arith

-- a node of the first paths is one of the tree
pub holds_front : (node : ℕ) (tree : Tree) (number : ℕ) → holds node (take number tree) ≡ true → holds node tree ≡ true
holds_front node tree number e = grind (arith, concat-append, list_any-append, take-append-drop number tree, concat-append (take number tree) (drop number tree))

holds_few : (node : ℕ) (tree : Tree) (number : ℕ) → cond (holds node (take number tree)) 1 0 ≤ cond (holds node tree) 1 0
holds_few node tree number = grind (arith, holds_front)

-- whether the tree with one more path holds the node
pub holds_more : (node : ℕ) (tree : Tree) (number : ℕ) → number < length tree → holds node (take (number + 1) tree) ≡ (holds node (take number tree) || list_any (λ other. eqb other node) (get_or tree number []))
holds_more node tree number l = ap (λ (t : Tree). holds node t) (take_more tree number [] l) ∙ holds_push node (take number tree) (get_or tree number [])

-- the tree holds a node of one of its paths
pub holds_at : (node : ℕ) (tree : Tree) (number : ℕ) → number < length tree → list_any (λ other. eqb other node) (get_or tree number []) ≡ true → holds node tree ≡ true
holds_at node tree number l e = holds_front node tree (number + 1) (holds_more node tree number l ∙ ap (λ b. holds node (take number tree) || b) e ∙ or_true (holds node (take number tree)))

module _ (tree : Tree) (number : ℕ) (l : number < length tree) (adds : AddsNodes (take number tree) (get_or tree number []) (news_from (take number tree))) (before held : List ℕ)
    (counted : (node : ℕ) → slice_index held node + cond (holds node (take number tree)) 1 0 ≡ slice_index before node) where
  news_count : (node : ℕ) → cond (holds node (take (number + 1) tree)) 1 0 ≡ cond (holds node (take number tree)) 1 0 + times_in node (news_at tree number)
  news_count node = ap (λ (t : Tree). cond {A = ℕ} (holds node t) 1 0) (take_more tree number [] l) ∙ adds.new node

  -- the nodes of the next path are still occupied
  pub news_held : ((node : ℕ) → cond (holds node tree) 1 0 ≤ slice_index before node) → (node : ℕ) → times_in node (news_at tree number) ≤ slice_index held node
  news_held some node = omega (arith, counted node, news_count node, holds_few node tree (number + 1), some node)

  -- the occupancies without the next path
  pub news_released : (held' : List ℕ) → ((node : ℕ) → slice_index held' node + times_in node (news_at tree number) ≡ slice_index held node) → (node : ℕ) → slice_index held' node + cond (holds node (take (number + 1) tree)) 1 0 ≡ slice_index before node
  news_released held' h node = omega (arith, counted node, news_count node, h node)

-- the new nodes of a path are nodes of the graph
pub news_within : (w : Wiring) (tree : Tree) (number : ℕ) → number < length tree → ((node : ℕ) → holds node tree ≡ true → node < w.count) → All (λ node. node < w.count) (news_at tree number)
news_within w tree number l within = All-drop (λ node. node < w.count) (news_from (take number tree)) (get_or tree number []) (paths_within w tree (λ node c. within node (any_from node (concat tree) c)) number [] l)

-- a path of a tree that is stored in one list
pub part_is : (nodes : List ℕ) (spans : List Span) (tree : Tree) (number : ℕ) (span : Span) → map (part_of nodes) spans ≡ tree → number < length tree → span ≡ get_or spans number span → part_of nodes span ≡ get_or tree number []
part_is nodes spans tree number span view l e = grind (arith, length-map, get_or-map)

-- a later path of a tree has a node
pub later_some : (tree : Tree) (number : ℕ) → AreAdded tree → number < length tree → (number ≡ 0 → ⊥) → 1 ≤ length (get_or tree number [])
later_some tree number added l n = omega (arith, (added number l).within, news_later tree number l n)

-- one more path at the end of the list
pub within_push : (count more : ℕ) (spans : List Span) (start end : ℕ) → AreWithin count spans → count ≤ more → start ≤ end → end ≤ more → AreWithin more (spans ++ record { start = start; end = end } ∷ [])
within_push count more [] start end within m a b = ((a, b), tt)
within_push count more (span ∷ spans) start end within m a b = ((within.0.0, omega (arith, within.0.1, m)), within_push count more spans start end within.1 m a b)
