-- The clusters of the layout of results are numbered in order.
use Rattle.print_law.proofs.Prelude.{◌≡◌, ℕ, zero, suc, refl, ◌+◌, List, [], ◌∷◌, ◌++◌, length, map, take, append_assoc, Some, Bool, true, false, cond, arith, ◌∙◌, sym, ap, subst, count_by, slice_get, ⊤, enumerate_from, range_with_len, sum_by-cons, blocks_of, PackedCircuit, Block, InputPad, OutputPad, Cluster, Place, place_of, block_is, laid_at, LaidBlock, AreNumbered, HasNumber, is_cluster}

-- the number of the next cluster after the block
abbrev after : ℕ → Block → ℕ
after number block = cond (is_cluster block) (number + 1) number

-- the clusters are numbered in order from this number on
abbrev NumberedFrom : ℕ → List Block → Type 0
NumberedFrom number [] = ⊤
NumberedFrom number (block ∷ blocks) = HasNumber number block × NumberedFrom (after number block) blocks

clusters_from : (start count : ℕ) → NumberedFrom start (map Cluster (range_with_len start count))
clusters_from start zero = tt
clusters_from start (suc count) = (refl, clusters_from (start + 1) count)

outputs_before : (nets : List ℕ) (blocks : List Block) (number : ℕ) → NumberedFrom number blocks → NumberedFrom number (map OutputPad nets ++ blocks)
outputs_before [] blocks number is = is
outputs_before (net ∷ nets) blocks number is = (tt, outputs_before nets blocks number is)

inputs_before : (nets : List ℕ) (blocks : List Block) (number : ℕ) → NumberedFrom number blocks → NumberedFrom number (map InputPad nets ++ blocks)
inputs_before [] blocks number is = is
inputs_before (net ∷ nets) blocks number is = (tt, inputs_before nets blocks number is)

-- so each cluster's number is the number of clusters before it

by_count : (blocks : List LaidBlock) (number : ℕ) → NumberedFrom number (map (λ (laid : LaidBlock). laid.block) blocks) → (place : ℕ) (laid : LaidBlock) → slice_get blocks place ≡ Some laid →
    HasNumber (number + count_by (λ (before : LaidBlock). is_cluster before.block) (take place blocks)) laid.block
by_count [] number is place laid at = absurd cc
by_count (first ∷ blocks) number is zero laid at =
    let same : first ≡ laid = cc in
    let here : number ≡ number + 0 = omega arith in
    subst (λ (n : ℕ). HasNumber n laid.block) here (subst (λ (l : LaidBlock). HasNumber number l.block) same is.0)
by_count (first ∷ blocks) number is (suc place) laid at =
    let rest = by_count blocks (after number first.block) is.1 place laid at in
    let before = λ (laid : LaidBlock). is_cluster laid.block in
    let count = sum_by-cons (λ (laid : LaidBlock). cond (is_cluster laid.block) 1 0) first (take place blocks) in
    subst (λ (n : ℕ). HasNumber n laid.block) (by (is_cluster first.block) (count_by (λ (before : LaidBlock). is_cluster before.block) (take place blocks)) ∙ sym (ap (λ k. number + k) count)) rest
  where
    by : (b : Bool) (k : ℕ) → cond b (number + 1) number + k ≡ number + (cond b 1 0 + k)
    by true k = omega arith
    by false k = omega arith

module _ (packed : PackedCircuit) (places : List Place) where
  same_blocks : (start : ℕ) (blocks : List Block) → map (λ (laid : LaidBlock). laid.block) (map (laid_at packed places) (enumerate_from start blocks)) ≡ blocks
  same_blocks start [] = refl
  same_blocks start (block ∷ blocks) =
      ap (λ (b : Block). b ∷ map (λ (laid : LaidBlock). laid.block) (map (laid_at packed places) (enumerate_from (start + 1) blocks))) (block_is packed block (place_of places start))
      ∙ ap (λ (bs : List Block). block ∷ bs) (same_blocks (start + 1) blocks)

  in_order : NumberedFrom 0 (blocks_of packed)
  in_order =
      let clusters = map Cluster (range_with_len 0 (length packed.clusters)) in
      subst (NumberedFrom 0) (sym (append_assoc (map InputPad packed.circuit.inputs) (map OutputPad packed.circuit.outputs) clusters))
      (inputs_before packed.circuit.inputs (map OutputPad packed.circuit.outputs ++ clusters) 0 (outputs_before packed.circuit.outputs clusters 0 (clusters_from 0 (length packed.clusters))))

  pub all_numbered : AreNumbered (map (laid_at packed places) (enumerate_from 0 (blocks_of packed)))
  all_numbered place laid at =
      let blocks = map (laid_at packed places) (enumerate_from 0 (blocks_of packed)) in
      let rest = by_count blocks 0 (subst (NumberedFrom 0) (sym (same_blocks 0 (blocks_of packed))) in_order) place laid at in
      let from : 0 + count_by (λ (before : LaidBlock). is_cluster before.block) (take place blocks) ≡ count_by (λ (before : LaidBlock). is_cluster before.block) (take place blocks) = omega arith in
      subst (λ (n : ℕ). HasNumber n laid.block) from rest
