-- How many nets use each node.
use Rattle.layout_check.proofs.Prelude.{cases_lt, get_or_past, length-take-le, count_by-le-length, ◌⊎◌, inl, inr, ◌^◌, ◌≡◌, ℕ, ◌+◌, ◌-◌, ◌<◌, ◌≤◌, Bool, true, false, List, [], ◌∷◌, ◌++◌, cond, take, get_or, length, replicate, slice_get, Some, sym, ap, refl, ◌∙◌, subst, arith, All, Contains, count_by, list_any, false≢true, get_or-replicate, take_all, take_more, All-contains, All-more, count_by_more_no, count_by_more_yes, from_any, in_first, in_later, in_none, count-no, Circuit, IsLaid, sinks_of, LaidNet, Layout, IsRouted, path_nodes, is_same_node, source_at, same_node, Node, Source, capacity_of, is_node, Basis, IsRoutingGraph, graph_of, AreUsedBy, is_on, AreCarried, AreUses, uses_of}
use Rattle.layout_check.proofs.Refute.{route_inside}

none_counted : {X : Type 0} (test : X → Bool) (xs : List X) → ((x : X) → Contains xs x → test x ≡ true → ⊥) → count_by test xs ≡ 0
none_counted test [] none = refl
none_counted {X} test (x ∷ xs) none = by (test x) refl (none_counted test xs (λ y c passes. none y (in_later x y xs c) passes))
  where
    by : (b : Bool) → test x ≡ b → count_by test xs ≡ 0 → count_by test (x ∷ xs) ≡ 0
    by true is rest = absurd (none x (in_first x xs) is)
    by false is rest = omega (arith, count-no test x xs is, rest)

-- the first entries are laid, and the uses of their nodes are counted
pub record AreChecked (circuit : Circuit) (basis : Basis) (layout : Layout) (n : ℕ) (uses : List ℕ) : Type 0 where
  pub long : length uses ≡ (graph_of basis).count
  pub all : All (IsLaid circuit basis.arch basis.strip layout) (take n layout.nets)
  pub counted : AreUses basis (take n layout.nets) uses

pub unused : (circuit : Circuit) (basis : Basis) (layout : Layout) (uses : List ℕ) → uses ≡ replicate (graph_of basis).count 0 → length uses ≡ (graph_of basis).count → AreChecked circuit basis layout 0 uses
unused circuit basis layout uses none long = grind (arith, get_or-replicate)

-- one more entry
pub checked_more : (circuit : Circuit) (basis : Basis) (layout : Layout) (n : ℕ) (old new : List ℕ) (laid : LaidNet) → AreChecked circuit basis layout n old → n < length layout.nets → get_or layout.nets n laid ≡ laid →
    length new ≡ (graph_of basis).count → IsLaid circuit basis.arch basis.strip layout laid → AreUsedBy basis laid.paths old new → AreChecked circuit basis layout (n + 1) new
checked_more circuit basis layout n old new laid so small item long is used = record {
  long = long;
  all = All-more (IsLaid circuit basis.arch basis.strip layout) layout.nets n laid small so.all (subst (λ l. IsLaid circuit basis.arch basis.strip layout l) (sym item) is);
  counted = λ node k less e. used node k less e ∙ ap (λ before. before + cond {A = ℕ} (is_on laid.paths node) 1 0) (so.counted node k less e) ∙ by node (is_on laid.paths node) refl;
}
  where
    by : (node : Node) (b : Bool) → is_on laid.paths node ≡ b → uses_of (take n layout.nets) node + cond {A = ℕ} b 1 0 ≡ uses_of (take (n + 1) layout.nets) node
    by node true on = sym (count_by_more_yes (λ (between : LaidNet). is_on between.paths node) layout.nets n laid small (ap (λ (l : LaidNet). is_on l.paths node) item ∙ on))
    by node false off =
        let more = count_by_more_no (λ (between : LaidNet). is_on between.paths node) layout.nets n laid small (ap (λ (l : LaidNet). is_on l.paths node) item ∙ off) in
        omega (arith, more)

-- no use is so many that one more has no room
pub few_uses : (circuit : Circuit) (basis : Basis) (layout : Layout) (n : ℕ) (uses : List ℕ) → n + 1 < 2 ^ 64 → n < length layout.nets → AreChecked circuit basis layout n uses → (k : ℕ) → get_or uses k 0 + 1 < 2 ^ 64
few_uses circuit basis layout n uses few small so k = by (cases_lt k (length uses))
  where
    by : (k < length uses) ⊎ (length uses ≤ k) → get_or uses k 0 + 1 < 2 ^ 64
    by (inl within) =
        let node = (graph_of basis).node k in
        let is = so.counted node k (let long = so.long in omega (arith, within, long)) refl in
        let most = count_by-le-length (λ (between : LaidNet). is_on between.paths node) (take n layout.nets) in
        let short = length-take-le n layout.nets (omega arith) in
        omega (arith, is, most, short)
    by (inr past) = let none = get_or_past uses k 0 past in omega (arith, none)

pub checked_all : (circuit : Circuit) (basis : Basis) (layout : Layout) (n : ℕ) (uses : List ℕ) → length layout.nets ≤ n → AreChecked circuit basis layout n uses →
    All (IsLaid circuit basis.arch basis.strip layout) layout.nets × AreUses basis layout.nets uses
checked_all circuit basis layout n uses end so = grind (arith, take_all)

-- the strip has each node of a tree
laid_inside : (circuit : Circuit) (basis : Basis) (layout : Layout) (laid : LaidNet) → IsLaid circuit basis.arch basis.strip layout laid → (node : Node) → Contains (path_nodes laid.paths) node → is_node basis.arch basis.strip node ≡ true
laid_inside circuit basis layout laid is node c = by (sinks_of circuit basis.arch layout laid.net) is.tree
  where
    by : (sinks : List Node) → IsRouted basis.arch basis.strip (source_at is.block.block is.block.place) sinks laid.paths → is_node basis.arch basis.strip node ≡ true
    by [] none = absurd (in_none node (subst (λ nodes. Contains nodes node) none c))
    by (sink ∷ sinks) r = route_inside basis.arch basis.strip (source_at is.block.block is.block.place) (sink ∷ sinks) laid.paths r refl node c

-- no node is in too many trees if none of the strip is
pub carried_all : (circuit : Circuit) (basis : Basis) → IsRoutingGraph basis (graph_of basis) → (layout : Layout) (uses : List ℕ) → All (IsLaid circuit basis.arch basis.strip layout) layout.nets → AreUses basis layout.nets uses →
    ((k : ℕ) → k < (graph_of basis).count → get_or uses k 0 ≤ capacity_of basis.arch basis.strip ((graph_of basis).node k)) → AreCarried basis layout.nets
carried_all circuit basis lawful layout uses all counted few node = by (is_node basis.arch basis.strip node) refl
  where
    inside : (between : LaidNet) → Contains layout.nets between → is_on between.paths node ≡ true → is_node basis.arch basis.strip node ≡ true
    inside between c on =
        let q = from_any (is_same_node node) (path_nodes between.paths) on in
        let there : Contains (path_nodes between.paths) node = subst (λ n. Contains (path_nodes between.paths) n) (sym (same_node node q.0 q.2)) q.1 in
        laid_inside circuit basis layout between (All-contains (IsLaid circuit basis.arch basis.strip layout) layout.nets between all c) node there

    by : (b : Bool) → is_node basis.arch basis.strip node ≡ b → uses_of layout.nets node ≤ capacity_of basis.arch basis.strip node
    by true there =
        let q = lawful.all node there in
        let is = counted node q.0 q.1 q.2 in
        let small = subst (λ n. get_or uses q.0 0 ≤ capacity_of basis.arch basis.strip n) q.2 (few q.0 q.1) in
        omega (arith, is, small)
    by false out =
        let none : uses_of layout.nets node ≡ 0 = none_counted (λ (between : LaidNet). is_on between.paths node) layout.nets (λ between c on. false≢true (sym out ∙ inside between c on)) in
        omega (arith, none)
