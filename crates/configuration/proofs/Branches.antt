-- The branch of a tree that leads from its source to a sink, as switches.
use Rattle.configuration.proofs.Prelude.{◌≡◌, true, false, ◌&&◌, not, List, [], ◌∷◌, Some, option_map, sym, ap, refl, ◌∙◌, subst, inl, inr, arith, Contains, and_parts, nat_tests, Arch, Strip, NodeKind, Source, Sink, Opin, Ipin, Node, is_edge, is_node, is_together, joins, HasOneOpin, IsRoute, LeadsOver, pairs_of, path_nodes, steps_of, is_same_node, same_node, from_flat_map, in_cases, in_first, in_later, in_none, to_any, to_flat_map, is_switch, is_terminal, node_after, node_before}
use Rattle.configuration.proofs.Found.{find_one, found_is}

-- ---- kinds of an edge's ends

from_source : (arch : Arch) (strip : Strip) (from to : NodeKind) (a b : Node) → joins arch strip from to a b ≡ true → from ≡ Source → (to ≡ Opin) × (is_together strip a b ≡ true)
from_source arch strip from to a b h e = grind arith

to_sink : (arch : Arch) (strip : Strip) (from to : NodeKind) (a b : Node) → joins arch strip from to a b ≡ true → to ≡ Sink → (from ≡ Ipin) × (is_together strip a b ≡ true)
to_sink arch strip from to a b h e = grind arith

to_opin : (arch : Arch) (strip : Strip) (from to : NodeKind) (a b : Node) → joins arch strip from to a b ≡ true → to ≡ Opin → from ≡ Source
to_opin arch strip from to a b h e = grind arith

from_sink : (arch : Arch) (strip : Strip) (to : NodeKind) (a b : Node) → joins arch strip Sink to a b ≡ true → ⊥
from_sink arch strip to a b h = grind arith

to_source : (arch : Arch) (strip : Strip) (from : NodeKind) (a b : Node) → joins arch strip from Source a b ≡ true → ⊥
to_source arch strip from a b h = grind arith

no_source : (arch : Arch) (strip : Strip) (from to : NodeKind) (a b : Node) → joins arch strip from to a b ≡ true → to ≡ Source → ⊥
no_source arch strip from to a b h e = to_source arch strip from a b (sym (ap (λ kind. joins arch strip from kind a b) e) ∙ h)

-- what an edge is
pub record Joined (arch : Arch) (strip : Strip) (a b : Node) : Type 0 where
  pub from : is_node arch strip a ≡ true
  pub to : is_node arch strip b ≡ true
  pub join : joins arch strip a.kind b.kind a b ≡ true

pub joined : (arch : Arch) (strip : Strip) (a b : Node) → is_edge arch strip a b ≡ true → Joined arch strip a b
joined arch strip a b edge = grind (arith, and_parts)

pub source_to_opin : (arch : Arch) (strip : Strip) (a b : Node) → is_edge arch strip a b ≡ true → a.kind ≡ Source → (b.kind ≡ Opin) × (is_together strip a b ≡ true)
source_to_opin arch strip a b edge e = from_source arch strip a.kind b.kind a b (joined arch strip a b edge).join e

pub ipin_to_sink : (arch : Arch) (strip : Strip) (a b : Node) → is_edge arch strip a b ≡ true → b.kind ≡ Sink → (a.kind ≡ Ipin) × (is_together strip a b ≡ true)
ipin_to_sink arch strip a b edge e = to_sink arch strip a.kind b.kind a b (joined arch strip a b edge).join e

pub opin_from_source : (arch : Arch) (strip : Strip) (a b : Node) → is_edge arch strip a b ≡ true → b.kind ≡ Opin → a.kind ≡ Source
opin_from_source arch strip a b edge e = to_opin arch strip a.kind b.kind a b (joined arch strip a b edge).join e

-- a node between two edges
pub between_edges : (arch : Arch) (strip : Strip) (a b c : Node) → is_edge arch strip a b ≡ true → is_edge arch strip b c ≡ true → is_terminal b.kind ≡ false
between_edges arch strip a b c one two = grind (arith, joined)

pub both_inner : (a b : Node) → is_terminal a.kind ≡ false → is_terminal b.kind ≡ false → is_switch (a, b) ≡ true
both_inner a b one two = ap (λ x. not x && not (is_terminal b.kind)) one ∙ ap (λ x. not x) two

-- ---- nodes of pairs

steps_in : (path : List Node) (a b : Node) → Contains (steps_of path) (a, b) → Contains path a × Contains path b
steps_in [] a b c = absurd (in_none (a, b) c)
steps_in (x ∷ []) a b c = absurd (in_none (a, b) c)
steps_in (x ∷ y ∷ path) a b c = elim (in_cases (x, y) (a, b) (steps_of (y ∷ path)) c) [
  | inl e ↦ (
    subst (λ z. Contains (x ∷ y ∷ path) z) (ap (λ (p : Node × Node). p.0) e) (in_first x (y ∷ path)),
    subst (λ z. Contains (x ∷ y ∷ path) z) (ap (λ (p : Node × Node). p.1) e) (in_later x y (y ∷ path) (in_first y path)),
  )
  | inr d ↦ (let q = steps_in (y ∷ path) a b d in (in_later x a (y ∷ path) q.0, in_later x b (y ∷ path) q.1))
]

pub pair_nodes : (paths : List (List Node)) (a b : Node) → Contains (pairs_of paths) (a, b) → Contains (path_nodes paths) a × Contains (path_nodes paths) b
pair_nodes paths a b c =
    let q = from_flat_map steps_of paths (a, b) c in
    let ends = steps_in q.0 a b q.2 in
    (to_flat_map (λ (path : List Node). path) paths q.0 a q.1 ends.0, to_flat_map (λ (path : List Node). path) paths q.0 b q.1 ends.1)

-- ---- the branch

-- a net's tree leads from its source over one output pin, and switches that are closed, to the
-- input pin of a sink
pub record Branch (arch : Arch) (strip : Strip) (source sink : Node) (edges switches : List (Node × Node)) : Type 0 where
  pub opin : Node
  pub ipin : Node
  pub first : node_after edges source ≡ Some opin
  pub last : node_before edges sink ≡ Some ipin
  pub from : Contains edges (source, opin)
  pub to : Contains edges (ipin, sink)
  pub way : List Node
  pub leads : LeadsOver switches ipin opin way

-- a way from a node to the input pin before the sink
record Lead (edges switches : List (Node × Node)) (node sink : Node) : Type 0 where
  ipin : Node
  to : Contains edges (ipin, sink)
  way : List Node
  leads : LeadsOver switches ipin node way

module _ (arch : Arch) (strip : Strip) (edges switches : List (Node × Node)) (lawful : (a b : Node) → Contains edges (a, b) → is_edge arch strip a b ≡ true)
    (kept : (a b : Node) → Contains edges (a, b) → is_switch (a, b) ≡ true → Contains switches (a, b)) (sink : Node) (is_sink : sink.kind ≡ Sink) where
  lead : (node : Node) (rest : List Node) → is_terminal node.kind ≡ false → LeadsOver edges sink node rest → Lead edges switches node sink
  lead node [] inner same =
      let wrong : true ≡ false = sym (ap is_terminal is_sink) ∙ sym (ap (λ (n : Node). is_terminal n.kind) same) ∙ inner in absurd cc
  lead node (next ∷ []) inner (c, same) = record { ipin = node; to = subst (λ n. Contains edges (node, n)) same c; way = []; leads = refl }
  lead node (next ∷ after ∷ rest) inner (c, (d, more)) =
      let inner_next = between_edges arch strip node next after (lawful node next c) (lawful next after d) in
      let q = lead next (after ∷ rest) inner_next (d, more) in
      record { ipin = q.ipin; to = q.to; way = next ∷ q.way; leads = (kept node next c (both_inner node next inner inner_next), q.leads) }

pub same_self : (a : Node) → is_same_node a a ≡ true
same_self a = grind (arith, nat_tests)

-- the first edge from a node, if there is one, and the first edge to it
after_is : (edges : List (Node × Node)) (a b : Node) → Contains edges (a, b) → (other : Node) × (node_after edges a ≡ Some other) × Contains edges (a, other)
after_is edges a b c =
    let test = λ (edge : Node × Node). is_same_node edge.0 a in
    let q = find_one test edges (to_any test edges (a, b) c (same_self a)) in
    let f = found_is test edges q.0 q.1 in
    (q.0.1, ap (option_map (λ (edge : Node × Node). edge.1)) q.1, subst (λ n. Contains edges (n, q.0.1)) (same_node q.0.0 a f.1) f.0)

before_is : (edges : List (Node × Node)) (a b : Node) → Contains edges (a, b) → (other : Node) × (node_before edges b ≡ Some other) × Contains edges (other, b)
before_is edges a b c =
    let test = λ (edge : Node × Node). is_same_node edge.1 b in
    let q = find_one test edges (to_any test edges (a, b) c (same_self b)) in
    let f = found_is test edges q.0 q.1 in
    (q.0.0, ap (option_map (λ (edge : Node × Node). edge.0)) q.1, subst (λ n. Contains edges (q.0.0, n)) (same_node q.0.1 b f.1) f.0)

pub branch : (arch : Arch) (strip : Strip) (source sink : Node) (sinks : List Node) (paths : List (List Node)) (switches : List (Node × Node)) → source.kind ≡ Source → sink.kind ≡ Sink →
    ((a b : Node) → Contains (pairs_of paths) (a, b) → is_switch (a, b) ≡ true → Contains switches (a, b)) → IsRoute arch strip source sinks paths → Contains sinks sink → Branch arch strip source sink (pairs_of paths) switches
branch arch strip source sink sinks paths switches is_source is_sink kept route c =
    let way = route.is_tree.reached sink ((route.leaves sink).1 c).0 in
    by way.0 way.1
  where
    one : HasOneOpin (path_nodes paths)
    one = route.one_opin

    by : (rest : List Node) → LeadsOver (pairs_of paths) sink source rest → Branch arch strip source sink (pairs_of paths) switches
    by [] same = let wrong : Source ≡ Sink = sym is_source ∙ (ap (λ (n : Node). n.kind) same ∙ is_sink) in absurd cc
    by (next ∷ rest) (c, more) =
        let edges = pairs_of paths in
        let opin = (source_to_opin arch strip source next (route.is_tree.edges source next c) is_source).0 in
        let l = lead arch strip edges switches route.is_tree.edges kept sink is_sink next rest (ap is_terminal opin) more in
        let after = after_is edges source next c in
        let other = (source_to_opin arch strip source after.0 (route.is_tree.edges source after.0 after.2) is_source).0 in
        let same : after.0 ≡ next = one.3 after.0 (pair_nodes paths source after.0 after.2).1 other ∙ sym (one.3 next (pair_nodes paths source next c).1 opin) in
        let before = before_is edges l.ipin sink l.to in
        let again : before.0 ≡ l.ipin = route.is_tree.one_way before.0 l.ipin sink before.2 l.to in
        record {
          opin = next;
          ipin = l.ipin;
          first = after.1 ∙ ap (λ (n : Node). Some n) same;
          last = before.1 ∙ ap (λ (n : Node). Some n) again;
          from = c;
          to = l.to;
          way = l.way;
          leads = l.leads;
        }
