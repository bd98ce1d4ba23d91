-- The number of nodes of a strip is within the limit.
use Rattle.rr_graph.proofs.Prelude.{ℕ, zero, suc, ◌≡◌, ◌+◌, ◌-◌, ◌*◌, ◌^◌, ◌<◌, ◌≤◌, List, [], ◌∷◌, map, length, arith, Bool, true, ◌&&◌, ◌||◌, nat_le, filter, flat_map, range_with_len, and_parts, mul-le, filter-append, length-range_with_len, NodeKind, Source, Sink, Opin, Ipin, ChanX, ChanY, Node, most_of, is_node, is_slot, is_chan_y, Basis, IsBasis, nodes_of, graph_of, make_node}
use Rattle.std.proofs.lemmas.List.{length-append}
use Rattle.rr_graph.proofs.Columns.{member_bounds}
use Rattle.rr_graph.proofs.Listing.{of_kind, in_place}

-- only the first numbers pass
few_numbers : (test : Node → Bool) (f : ℕ → Node) (most a count : ℕ) → ((n : ℕ) → test (f n) ≡ true → n < most) →
    length (filter test (map f (range_with_len a count))) ≤ most - a
few_numbers test f most a zero small = omega arith
few_numbers test f most a (suc count) small = grind (arith, few_numbers test f most (a + 1) count small)

-- the elements that pass, of one list and of the others
few_more : {X : Type 0} (test : Node → Bool) (f : X → List Node) (x : X) (xs : List X) (m n : ℕ) → length (filter test (f x)) ≤ m → length (filter test (flat_map f xs)) ≤ n →
    length (filter test (flat_map f (x ∷ xs))) ≤ m + n
few_more test f x xs m n here rest = grind (arith, filter-append, length-append)

few_of_each : {X : Type 0} (test : Node → Bool) (f : X → List Node) (most : ℕ) (xs : List X) → ((x : X) → length (filter test (f x)) ≤ most) →
    length (filter test (flat_map f xs)) ≤ length xs * most
few_of_each test f most [] few = omega arith
few_of_each test f most (x ∷ xs) few = omega (arith, few_more test f x xs most (length xs * most) (few x) (few_of_each test f most xs few))

module _ (basis : Basis) (lawful : IsBasis basis) where
  abbrev is_there : Node → Bool
  is_there = is_node basis.arch basis.strip

  few_in_row : (x : ℕ) (kind : NodeKind) (y : ℕ) → length (filter is_there (map (make_node x kind y) (range_with_len 0 145))) ≤ most_of kind
  few_in_row x kind y =
      let few = few_numbers is_there (make_node x kind y) (most_of kind) 0 145 (λ n is.
      let outer = and_parts (nat_le x basis.strip.width) ((nat_le 1 x || is_chan_y kind) && is_slot basis.arch basis.strip kind y n) is in
      let inner = and_parts (nat_le 1 x || is_chan_y kind) (is_slot basis.arch basis.strip kind y n) outer.1 in
      (member_bounds basis.arch basis.strip kind y n lawful.arch lawful.strip inner.1).1) in
      omega (arith, few)

  few_of_kind : (x : ℕ) (kind : NodeKind) → length (filter is_there (of_kind basis.strip x kind)) ≤ 66 * most_of kind
  few_of_kind x kind =
      let rows = range_with_len 0 (basis.strip.rows + 2) in
      let few = few_of_each is_there (λ y. map (make_node x kind y) (range_with_len 0 145)) (most_of kind) rows (few_in_row x kind) in
      let most : length rows * most_of kind ≤ 66 * most_of kind =
      mul-le (length rows) (most_of kind) 66 (most_of kind) (omega (arith, length-range_with_len 0 (basis.strip.rows + 2), lawful.strip.rows.1)) (omega arith) in
      omega (arith, few, most)

  few_in_place : (x : ℕ) → length (filter is_there (in_place basis.strip x)) ≤ 28644
  few_in_place x =
      let g : NodeKind → List Node = of_kind basis.strip x in
      let some = few_of_kind x in
      let chan_y = few_more is_there g ChanY [] (66 * 64) 0 (some ChanY) (omega arith) in
      let chan_x = few_more is_there g ChanX (ChanY ∷ []) (66 * 64) (66 * 64) (some ChanX) (omega (arith, chan_y)) in
      let ipin = few_more is_there g Ipin (ChanX ∷ ChanY ∷ []) (66 * 145) (66 * 128) (some Ipin) (omega (arith, chan_x)) in
      let opin = few_more is_there g Opin (Ipin ∷ ChanX ∷ ChanY ∷ []) (66 * 145) (66 * 273) (some Opin) (omega (arith, ipin)) in
      let sink = few_more is_there g Sink (Opin ∷ Ipin ∷ ChanX ∷ ChanY ∷ []) (66 * 8) (66 * 418) (some Sink) (omega (arith, opin)) in
      omega (arith, few_more is_there g Source (Sink ∷ Opin ∷ Ipin ∷ ChanX ∷ ChanY ∷ []) (66 * 8) (66 * 426) (some Source) (omega (arith, sink)))

  pub few_nodes : (graph_of basis).count ≤ 2 ^ 23
  unfolding nodes_of graph_of
  few_nodes =
      let columns = range_with_len 0 (basis.strip.width + 1) in
      let few : (graph_of basis).count ≤ length columns * 28644 = few_of_each is_there (in_place basis.strip) 28644 columns few_in_place in
      omega (arith, few, length-range_with_len 0 (basis.strip.width + 1), lawful.strip.width.1)
