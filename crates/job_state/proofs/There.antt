-- What routes occupy is on the strip, and so is a list of it.
use Rattle.job_state.proofs.Prelude.{ℕ, ◌≡◌, inl, inr, true, List, [], ◌∷◌, ◌++◌, get_or, arith, sym, subst, ◌∙◌, All, option_to_list, false≢true, or_cases, All-append, All-cons, All-nil, All-tail, list_any_at, Node, NodeKind, Source, Sink, Opin, Ipin, ChanX, ChanY, Resource, is_node, Basis, has, is_same, is_there, resource_of, Arch, Strip, IsDone, RoutingState, AreThere, ListsAll, on_path, on_tree, on_trees}
use Rattle.job_state.proofs.InOrder.{is_itself, same_is}

-- what holds of all resources in a list holds of one that the list has
found : (P : Resource → Type 0) (all : List Resource) (resource : Resource) → has all resource ≡ true → All P all → P resource
found P [] resource is each = absurd (false≢true is)
found P (first ∷ rest) resource is each = elim (or_cases (is_same resource first) (has rest resource) is) [
  | inl same ↦ subst P (sym (same_is resource first same)) (each 0 resource (omega arith))
  | inr later ↦ found P rest resource later (All-tail P first rest each)
]

pub listed_there : (basis : Basis) (all list : List Resource) → ListsAll all list → AreThere basis all → AreThere basis list
listed_there basis all list lists there k d less =
    let resource = get_or list k d in
    found (λ r. is_there basis.arch basis.strip r ≡ true) all resource (sym (lists.exact resource) ∙ list_any_at (is_same resource) list k d less (is_itself resource)) there

module _ (basis : Basis) where
  abbrev IsThere : Resource → Type 0
  IsThere resource = is_there basis.arch basis.strip resource ≡ true

  abbrev IsNodeOf : Node → Type 0
  IsNodeOf node = is_node basis.arch basis.strip node ≡ true

  of_kind : (x : ℕ) (kind : NodeKind) (y n : ℕ) → IsNodeOf (record { x = x; kind = kind; y = y; n = n }) → All IsThere (option_to_list (resource_of (record { x = x; kind = kind; y = y; n = n })))
  of_kind x Source y n is = All-nil IsThere
  of_kind x Sink y n is = All-nil IsThere
  of_kind x Opin y n is = All-cons IsThere _ [] is (All-nil IsThere)
  of_kind x Ipin y n is = All-cons IsThere _ [] is (All-nil IsThere)
  of_kind x ChanX y n is = All-cons IsThere _ [] is (All-nil IsThere)
  of_kind x ChanY y n is = All-cons IsThere _ [] is (All-nil IsThere)

  on_path_there : (path : List Node) → All IsNodeOf path → All IsThere (on_path path)
  on_path_there [] each = All-nil IsThere
  on_path_there (node ∷ path) each =
      All-append IsThere (option_to_list (resource_of node)) (on_path path) (of_kind node.x node.kind node.y node.n (each 0 node (omega arith))) (on_path_there path (All-tail IsNodeOf node path each))

  on_tree_there : (tree : List (List Node)) → All (All IsNodeOf) tree → All IsThere (on_tree tree)
  on_tree_there [] each = All-nil IsThere
  on_tree_there (path ∷ tree) each = All-append IsThere (on_path path) (on_tree tree) (on_path_there path (each 0 path (omega arith))) (on_tree_there tree (All-tail (All IsNodeOf) path tree each))

  on_trees_there : (trees : List (List (List Node))) → All (All (All IsNodeOf)) trees → All IsThere (on_trees trees)
  on_trees_there [] each = All-nil IsThere
  on_trees_there (tree ∷ trees) each = All-append IsThere (on_tree tree) (on_trees trees) (on_tree_there tree (each 0 tree (omega arith))) (on_trees_there trees (All-tail (All (All IsNodeOf)) tree trees each))

  -- the routes of a routing that is done
  pub done_there : (old : RoutingState) (routes : List (List (List Node))) → IsDone basis old routes → AreThere basis (on_trees routes)
  done_there old routes done = on_trees_there routes done.there

-- what routes occupy, together with the pads
pub both_there : (basis : Basis) (arch : Arch) (strip : Strip) (on_routes pads : List Resource) → arch ≡ basis.arch → strip ≡ basis.strip → AreThere basis on_routes → AreThere basis pads → AreThere (record { arch = arch; strip = strip }) (on_routes ++ pads)
both_there basis arch strip on_routes pads of_arch of_strip there pads_there = rw (of_arch, of_strip) (All-append (λ resource. is_there basis.arch basis.strip resource ≡ true) on_routes pads there pads_there)

-- this depends on the architecture and the strip alone
pub on_same_strip : (basis other : Basis) (resources : List Resource) → other.arch ≡ basis.arch → other.strip ≡ basis.strip → AreThere basis resources → AreThere other resources
on_same_strip basis other resources of_arch of_strip there = rw (of_arch, of_strip) there
