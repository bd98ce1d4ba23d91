-- The ports of the layout of results, and its places.
use Rattle.implements.proofs.Prelude.{get_or, ◌≡◌, ℕ, suc, ◌+◌, ◌<◌, List, [], ◌∷◌, ◌++◌, length, map, Some, slice_get, sym, ap, refl, ◌∙◌, inl, inr, subst, arith, append-nil, Contains, enumerate_from, flat_map, range_with_len, get_or-map, length-map, flat_map-append, get_or-enumerate_from, length-enumerate_from, get_or_from_slice_get, kind_of, ArePlaced, block_at, place_of, PackedCircuit, blocks_of, Block, InputPad, OutputPad, Cluster, Strip, Place, places_of, Node, input_at, output_at, laid_block, layout_of, LaidBlock}
use Rattle.implements.proofs.Results.{HasPorts}
use Rattle.implements.proofs.Members.{all_members, from_get, from_map, in_cases, in_none}

pub block_is : (packed : PackedCircuit) (block : Block) (place : Place) → (laid_block packed block place).block ≡ block
block_is packed block place = grind arith

pub place_is : (packed : PackedCircuit) (block : Block) (place : Place) → (laid_block packed block place).place ≡ place
place_is packed block place = grind arith

-- a member of a numbered list
pub numbered : {X : Type 0} (start : ℕ) (xs : List X) (number : ℕ) (x : X) → Contains (enumerate_from start xs) (number, x) → (i : ℕ) × (number ≡ start + i) × (slice_get xs i ≡ Some x)
numbered start [] number x c = absurd (in_none (number, x) c)
numbered {X} start (first ∷ xs) number x c = elim (in_cases (start, first) (number, x) (enumerate_from (start + 1) xs) c) [
  | inl e ↦ (let at : start ≡ number = ap (λ (p : ℕ × X). p.0) e in (0, omega (arith, at), ap (λ (p : ℕ × X). Some p.1) e))
  | inr d ↦ (let q = numbered (start + 1) xs number x d in (suc q.0, omega (arith, q.1), q.2))
]

module _ (packed : PackedCircuit) (places : List Place) where
  abbrev pub laid_at : ℕ × Block → LaidBlock
  laid_at block = laid_block packed block.1 (place_of places block.0)

  by_block : (f : Block → List ℕ) (start : ℕ) (blocks : List Block) → flat_map (λ (laid : LaidBlock). f laid.block) (map laid_at (enumerate_from start blocks)) ≡ flat_map f blocks
  by_block f start [] = refl
  by_block f start (block ∷ blocks) = grind (arith, by_block f (start + 1) blocks)

  ins_in : (nets : List ℕ) → flat_map input_at (map InputPad nets) ≡ nets
  ins_in [] = refl
  ins_in (net ∷ nets) = ap (λ (rest : List ℕ). net ∷ rest) (ins_in nets)

  ins_out : (nets : List ℕ) → flat_map input_at (map OutputPad nets) ≡ []
  ins_out [] = refl
  ins_out (net ∷ nets) = ins_out nets

  ins_clusters : (numbers : List ℕ) → flat_map input_at (map Cluster numbers) ≡ []
  ins_clusters [] = refl
  ins_clusters (number ∷ numbers) = ins_clusters numbers

  outs_in : (nets : List ℕ) → flat_map output_at (map InputPad nets) ≡ []
  outs_in [] = refl
  outs_in (net ∷ nets) = outs_in nets

  outs_out : (nets : List ℕ) → flat_map output_at (map OutputPad nets) ≡ nets
  outs_out [] = refl
  outs_out (net ∷ nets) = ap (λ (rest : List ℕ). net ∷ rest) (outs_out nets)

  outs_clusters : (numbers : List ℕ) → flat_map output_at (map Cluster numbers) ≡ []
  outs_clusters [] = refl
  outs_clusters (number ∷ numbers) = outs_clusters numbers

  in_parts : (f : Block → List ℕ) → flat_map f (blocks_of packed) ≡ (flat_map f (map InputPad packed.circuit.inputs) ++ flat_map f (map OutputPad packed.circuit.outputs)) ++ flat_map f (map Cluster (range_with_len 0 (length packed.clusters)))
  in_parts f = grind (arith, flat_map-append)

  inputs_are : flat_map input_at (blocks_of packed) ≡ packed.circuit.inputs
  inputs_are = grind (arith, ins_in, ins_out, ins_clusters, in_parts, append-nil)

  outputs_are : flat_map output_at (blocks_of packed) ≡ packed.circuit.outputs
  outputs_are = grind (arith, outs_in, outs_out, outs_clusters, in_parts, append-nil)

  pub ports : (strip : Strip) (routes : List (List (List Node))) → ArePlaced strip packed places → HasPorts packed.circuit strip (layout_of packed places routes)
  unfolding layout_of
  ports strip routes at =
      let blocks = blocks_of packed in
      record {
        inputs = by_block input_at 0 blocks ∙ inputs_are;
        outputs = by_block output_at 0 blocks ∙ outputs_are;
        placed = all_members (λ (laid : LaidBlock). Contains (places_of strip (kind_of laid.block)) laid.place) (map laid_at (enumerate_from 0 blocks)) (λ laid c.
            let q = from_map laid_at (enumerate_from 0 blocks) laid c in
            let n = numbered 0 blocks q.0.0 q.0.1 q.1 in
            let number : q.0.0 ≡ n.0 = omega (arith, n.1) in
            let small = (from_get blocks n.0 q.0.1 n.2).0 in
            let there = at.by_kind q.0.0 (omega (arith, small, number)) in
            let same : block_at packed q.0.0 ≡ q.0.1 = ap (block_at packed) number ∙ get_or_from_slice_get blocks n.0 q.0.1 (Cluster 0) n.2 in
            let kinds : Contains (places_of strip (kind_of q.0.1)) (place_of places q.0.0) = subst (λ (b : Block). Contains (places_of strip (kind_of b)) (place_of places q.0.0)) same there in
            let mine : Contains (places_of strip (kind_of (laid_at q.0).block)) (laid_at q.0).place =
            subst (λ (p : Place). Contains (places_of strip (kind_of (laid_at q.0).block)) p) (sym (place_is packed q.0.1 (place_of places q.0.0)))
            (subst (λ (b : Block). Contains (places_of strip (kind_of b)) (place_of places q.0.0)) (sym (block_is packed q.0.1 (place_of places q.0.0))) kinds) in
            subst (λ (l : LaidBlock). Contains (places_of strip (kind_of l.block)) l.place) q.2 mine);
        apart = λ i j d before small same.
            let long = length-map (enumerate_from 0 blocks) laid_at in
            let count = length-enumerate_from 0 blocks in
            let none : ℕ × Block = (0, Cluster 0) in
            let place_at' : (k : ℕ) → k < length blocks → (get_or (map laid_at (enumerate_from 0 blocks)) k d).place ≡ place_of places k = λ k lt.
            ap (λ (l : LaidBlock). l.place) (get_or-map laid_at (enumerate_from 0 blocks) k none d (omega (arith, lt, count)))
            ∙ place_is packed (get_or (enumerate_from 0 blocks) k none).1 (place_of places (get_or (enumerate_from 0 blocks) k none).0)
            ∙ ap (λ (p : ℕ × Block). place_of places p.0) (get_or-enumerate_from 0 blocks k none lt)
            ∙ (let here : 0 + k ≡ k = omega arith in ap (place_of places) here) in
            let small_j : j < length blocks = omega (arith, small, long, count) in
            let small_i : i < length blocks = omega (arith, before, small_j) in
            let equal : i ≡ j = at.one_to_one i j small_i small_j (sym (place_at' i small_i) ∙ same ∙ place_at' j small_j) in
            omega (arith, before, equal);
      }
