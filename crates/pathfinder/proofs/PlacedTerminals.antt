-- The sources and sinks of placed blocks.
use Rattle.pathfinder.proofs.Prelude.{◌≡◌, ◌≢◌, ℕ, ◌<◌, Bool, true, false, List, [], ◌∷◌, length, get_or, map, cond, sym, ap, subst, ◌∙◌, arith, AllPairs, nat_tests, Decides-eqb, length-map, get_or-map, All-nil, All-map, All-contains, IsDistinct-from_AllPairs, Arch, Block, PackedCircuit, BlockNet, blocks_of, block_nets, IsBlockNet, IsLawfulPacking, Strip, Kind, Place, IsStripSize, place_at, places_of, IsInRow, IsPlaceIn, kind_of, Sink, Node, is_node, Basis, IsBasis, IsRoutingGraph, graph_of, IsNet, AreNets, block_at, place_of, ArePlaced, source_at, sink_at, wiring_of, number_of, net_to_route, nets_to_route}
use Rattle.std.specs.Prelude.{All}
use Rattle.pathfinder.proofs.NodeNumbers.{number_found}

-- ---- they are nodes

pub source_is : (arch : Arch) (strip : Strip) (block : Block) (place : Place) → IsPlaceIn strip (kind_of block) place → is_node arch strip (source_at block place) ≡ true
source_is arch strip block place at = search (nat_tests, arith)

pub sink_is : (arch : Arch) (strip : Strip) (block : Block) (place : Place) → IsPlaceIn strip (kind_of block) place → is_node arch strip (sink_at block place) ≡ true
sink_is arch strip block place at = search (nat_tests, arith)

-- two places with equal parts are equal
same_place : (a b : Place) → a.x ≡ b.x → a.y ≡ b.y → a.subblock ≡ b.subblock → a ≡ b
same_place a b x y s = ap (λ k. place_at k a.y a.subblock) x ∙ ap (λ k. place_at b.x k a.subblock) y ∙ ap (λ k. place_at b.x b.y k) s

-- two blocks with equal sinks have equal places
same_sink : (strip : Strip) (a b : Block) (p q : Place) → IsInRow strip (kind_of a) p → IsInRow strip (kind_of b) q → sink_at a p ≡ sink_at b q → p ≡ q
same_sink strip a b p q s t e = grind arith

-- pairs that are in a relation after a function is applied
AllPairs-map : {X Y : Type 0} (R : Y → Y → Type 0) (f : X → Y) (xs : List X) → AllPairs (λ x y. R (f x) (f y)) xs → AllPairs R (map f xs)
AllPairs-map R f [] h i j d l m = absurd (omega arith)
AllPairs-map {X} {Y} R f (x ∷ xs) h i j d l m =
    let long = length-map (x ∷ xs) f in
    let at : (k : ℕ) → k < length (x ∷ xs) → get_or (map f (x ∷ xs)) k d ≡ f (get_or (x ∷ xs) k x) = λ k b. get_or-map f (x ∷ xs) k x d b in
    let ends : j < length (x ∷ xs) = omega (arith, m, long) in
    let starts : i < length (x ∷ xs) = omega (arith, l, ends) in
    let here = h i j x l ends in
    subst (λ (a : Y). R a (get_or (map f (x ∷ xs)) j d)) (sym (at i starts)) (subst (λ (b : Y). R (f (get_or (x ∷ xs) i x)) b) (sym (at j ends)) here)

-- ---- the nets to route

module _ (basis : Basis) (known : IsBasis basis) (lawful : IsRoutingGraph basis (graph_of basis)) (packed : PackedCircuit) (places : List Place) (placed : ArePlaced basis.strip packed places) (within : (strip : Strip) (kind : Kind) → IsStripSize strip → All (IsPlaceIn strip kind) (places_of strip kind)) where
  -- the place of a block
  pub block_stands : (block : ℕ) → block < length (blocks_of packed) → IsPlaceIn basis.strip (kind_of (block_at packed block)) (place_of places block)
  block_stands block b = All-contains (IsPlaceIn basis.strip (kind_of (block_at packed block))) (places_of basis.strip (kind_of (block_at packed block))) (place_of places block) (within basis.strip (kind_of (block_at packed block)) known.strip) (placed.by_kind block b)

  -- a node has its number
  numbered : (node : Node) → is_node basis.arch basis.strip node ≡ true → (number_of (graph_of basis) node < (graph_of basis).count) × ((graph_of basis).node (number_of (graph_of basis) node) ≡ node)
  numbered node is = grind (arith, number_found)

  pub block_source : (block : ℕ) → block < length (blocks_of packed) → is_node basis.arch basis.strip (source_at (block_at packed block) (place_of places block)) ≡ true
  block_source block b = source_is basis.arch basis.strip (block_at packed block) (place_of places block) (block_stands block b)

  pub block_sink : (block : ℕ) → block < length (blocks_of packed) → is_node basis.arch basis.strip (sink_at (block_at packed block) (place_of places block)) ≡ true
  block_sink block b = sink_is basis.arch basis.strip (block_at packed block) (place_of places block) (block_stands block b)

  abbrev sink_number : ℕ → ℕ
  sink_number block = number_of (graph_of basis) (sink_at (block_at packed block) (place_of places block))

  sinks_apart : (block other : ℕ) → block < length (blocks_of packed) → other < length (blocks_of packed) → sink_number block ≡ sink_number other → block ≡ other
  sinks_apart block other b o e = grind (arith, numbered, block_sink, same_sink, block_stands)

  is_net : (net : BlockNet) → IsBlockNet packed net → IsNet (wiring_of basis) (net_to_route basis packed places net)
  is_net net n = by net.global
    where
      by : (global : Bool) → IsNet (wiring_of basis) (record { source = number_of (graph_of basis) (source_at (block_at packed net.driver) (place_of places net.driver)); sinks = cond global [] (map sink_number net.readers) })
      by true =
          let source = numbered (source_at (block_at packed net.driver) (place_of places net.driver)) (block_source net.driver n.driver) in
          record {
            source_in = source.0;
            source = ap (λ (node : Node). node.kind) source.1;
            sinks_in = All-nil (λ sink. sink < (wiring_of basis).count);
            sinks = All-nil (λ sink. (wiring_of basis).kind sink ≡ Sink);
            distinct = IsDistinct-from_AllPairs Decides-eqb [] (λ i j d l m. absurd (omega arith));
          }
      by false =
          let source = numbered (source_at (block_at packed net.driver) (place_of places net.driver)) (block_source net.driver n.driver) in
          let sink = λ (block : ℕ) (b : block < length (blocks_of packed)). numbered (sink_at (block_at packed block) (place_of places block)) (block_sink block b) in
          record {
            source_in = source.0;
            source = ap (λ (node : Node). node.kind) source.1;
            sinks_in = All-map (λ sink. sink < (wiring_of basis).count) sink_number net.readers (λ k d l. (sink (get_or net.readers k d) (n.readers k d l)).0);
            sinks = All-map (λ sink. (wiring_of basis).kind sink ≡ Sink) sink_number net.readers (λ k d l. ap (λ (node : Node). node.kind) (sink (get_or net.readers k d) (n.readers k d l)).1);
            distinct = IsDistinct-from_AllPairs Decides-eqb (map sink_number net.readers) (AllPairs-map (λ (a b : ℕ). a ≢ b) sink_number net.readers (λ i j d l m e.
                let before : i < length net.readers = omega arith in
                omega (arith, n.rise i j d l m, sinks_apart (get_or net.readers i d) (get_or net.readers j d) (n.readers i d before) (n.readers j d m) e)));
          }

  -- the nets to route satisfy the conditions
  pub are_nets : IsLawfulPacking packed → AreNets (wiring_of basis) (nets_to_route basis packed places)
  unfolding nets_to_route
  are_nets law = record {
    few = omega (arith, law.few_nets, length-map (block_nets packed) (net_to_route basis packed places));
    each = All-map (IsNet (wiring_of basis)) (net_to_route basis packed places) (block_nets packed) (λ k d l. is_net (get_or (block_nets packed) k d) (law.nets k d l));
  }
