-- The blocks of the layout of results: what is inside each.
use Rattle.implements.proofs.Prelude.{◌≡◌, ℕ, ◌+◌, ◌≤◌, List, [], ◌∷◌, ◌++◌, length, map, ap, refl, ◌∙◌, subst, arith, All, Contains, enumerate_from, flat_map, All-nil, place_of, LogicElement, PackedCircuit, blocks_of, IsPacked, IsLawfulPacking, Block, InputPad, OutputPad, Cluster, Place, Node, HasCluster, block_is_there, ble_places, laid_block, layout_of, IsFed, LaidBlock, traced_ble, traced_bles}
use Rattle.implements.proofs.Results.{packed_bles}
use Rattle.implements.proofs.Back.{traced_back}
use Rattle.implements.proofs.Led.{block_number}
use Rattle.implements.proofs.Members.{all_members, from_map, in_first, in_later}
use Rattle.implements.proofs.Ports.{laid_at}

module _ (packed : PackedCircuit) (places : List Place) (lawful : IsPacked packed) (laws : IsLawfulPacking packed) where
  fed_in : (block : Block) (place : Place) → HasCluster packed block → All (IsFed packed.arch (laid_block packed block place)) (laid_block packed block place).bles
  fed_in (InputPad net) place there = All-nil (IsFed packed.arch (laid_block packed (InputPad net) place))
  fed_in (OutputPad net) place there = All-nil (IsFed packed.arch (laid_block packed (OutputPad net) place))
  fed_in (Cluster cluster) place there = (traced_back packed lawful laws cluster place there).fed

  few_in : (block : Block) (place : Place) → HasCluster packed block → length (laid_block packed block place).bles ≤ ble_places packed.arch (laid_block packed block place).block
  few_in (InputPad net) place there = omega arith
  few_in (OutputPad net) place there = omega arith
  few_in (Cluster cluster) place there = (traced_back packed lawful laws cluster place there).few

  same_in : (block : Block) (place : Place) → HasCluster packed block → map (traced_ble packed.arch (laid_block packed block place)) (laid_block packed block place).bles ≡ packed_bles packed block
  same_in (InputPad net) place there = refl
  same_in (OutputPad net) place there = refl
  same_in (Cluster cluster) place there = (traced_back packed lawful laws cluster place there).same

  pub each_block : (P : LaidBlock → Type 0) → ((block : Block) (place : Place) → HasCluster packed block → P (laid_block packed block place)) → All P (map (laid_at packed places) (enumerate_from 0 (blocks_of packed)))
  each_block P h = all_members P (map (laid_at packed places) (enumerate_from 0 (blocks_of packed))) (λ laid c.
      let q = from_map (laid_at packed places) (enumerate_from 0 (blocks_of packed)) laid c in
      let at = block_number packed places lawful laws q.0 q.1 in
      subst P q.2 (h q.0.1 (place_of places q.0.0) (block_is_there packed q.0.0 q.0.1 at.0)))

  pub all_fed : (routes : List (List (List Node))) → All (λ (laid : LaidBlock). All (IsFed packed.arch laid) laid.bles) (layout_of packed places routes).blocks
  unfolding layout_of
  all_fed routes = each_block (λ (laid : LaidBlock). All (IsFed packed.arch laid) laid.bles) fed_in

  pub all_few : (routes : List (List (List Node))) → All (λ (laid : LaidBlock). length laid.bles ≤ ble_places packed.arch laid.block) (layout_of packed places routes).blocks
  unfolding layout_of
  all_few routes = each_block (λ (laid : LaidBlock). length laid.bles ≤ ble_places packed.arch laid.block) few_in

  same_from : (es : List (ℕ × Block)) → ((e : ℕ × Block) → Contains es e → HasCluster packed e.1) →
      flat_map (λ (laid : LaidBlock). map (traced_ble packed.arch laid) laid.bles) (map (laid_at packed places) es) ≡ flat_map (λ (e : ℕ × Block). packed_bles packed e.1) es
  same_from [] there = refl
  same_from (e ∷ es) there =
      ap (λ (l : List LogicElement). l ++ flat_map (λ (laid : LaidBlock). map (traced_ble packed.arch laid) laid.bles) (map (laid_at packed places) es)) (same_in e.1 (place_of places e.0) (there e (in_first e es)))
      ∙ ap (λ (l : List LogicElement). packed_bles packed e.1 ++ l) (same_from es (λ other c. there other (in_later e other es c)))

  second : (start : ℕ) (blocks : List Block) → flat_map (λ (e : ℕ × Block). packed_bles packed e.1) (enumerate_from start blocks) ≡ flat_map (packed_bles packed) blocks
  second start [] = refl
  second start (block ∷ blocks) = ap (λ (l : List LogicElement). packed_bles packed block ++ l) (second (start + 1) blocks)

  pub all_same : (routes : List (List (List Node))) → traced_bles packed.arch (layout_of packed places routes) ≡ flat_map (packed_bles packed) (blocks_of packed)
  unfolding layout_of
  all_same routes =
      same_from (enumerate_from 0 (blocks_of packed)) (λ e c. let at = block_number packed places lawful laws e c in block_is_there packed e.0 e.1 at.0)
      ∙ second 0 (blocks_of packed)
