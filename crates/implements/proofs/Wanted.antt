-- The layout of results lists each net that is wanted somewhere, and once; the nets on the global
-- network are those that control latches.
use Rattle.implements.proofs.Prelude.{get_or, ◌≡◌, ◌≢◌, ℕ, ◌+◌, true, List, [], ◌∷◌, filter, map, sym, ap, refl, ◌∙◌, subst, All, AllPairs, Contains, enumerate_from, has, place_of, PackedCircuit, BlockNet, block_net, block_nets, blocks_of, is_global, nets_from, IsPacked, IsLawfulPacking, Block, pairs_of_map, Place, Node, block_is_there, wants, laid_net, layout_of, LaidBlock, LaidNet}
use Rattle.implements.proofs.Between.{same_truth, wanted_as_read}
use Rattle.implements.proofs.Entries.{global_entry, names_apart, read_entry}
use Rattle.implements.proofs.Led.{block_number}
use Rattle.implements.proofs.Members.{all_members, from_filter, from_flat_map, from_has, from_map, to_filter, to_has, to_map}
use Rattle.implements.proofs.Ports.{laid_at}
use Rattle.implements.proofs.Unique.{AreApart}

-- the names of the nets, with paths or without
names : (routes : List (List (List Node))) (start : ℕ) (nets : List BlockNet) →
    map (λ (between : LaidNet). between.net) (map (λ (net : ℕ × BlockNet). laid_net net.1 (get_or routes net.0 [])) (enumerate_from start nets)) ≡ map (λ (between : BlockNet). between.net) nets
names routes start [] = refl
names routes start (net ∷ nets) = ap (λ (rest : List ℕ). net.net ∷ rest) (names routes (start + 1) nets)

module _ (packed : PackedCircuit) (places : List Place) (routes : List (List (List Node))) (lawful : IsPacked packed) (laws : IsLawfulPacking packed) where
  pub all_once : AllPairs (λ (between other : LaidNet). between.net ≢ other.net) (layout_of packed places routes).nets
  unfolding layout_of
  all_once =
      let f : ℕ × BlockNet → LaidNet = λ net. laid_net net.1 (get_or routes net.0 []) in
      let apart : AreApart (map (λ (between : LaidNet). between.net) (map f (enumerate_from 0 (block_nets packed)))) = subst AreApart (sym (names routes 0 (block_nets packed))) (names_apart packed lawful laws) in
      pairs_of_map (λ net other. net ≢ other) (λ (between : LaidNet). between.net) (map f (enumerate_from 0 (block_nets packed))) apart

  pub all_globals : (net : ℕ) → has (layout_of packed places routes).globals net ≡ is_global packed.circuit net
  unfolding layout_of
  all_globals net =
      let globals = map (λ (between : BlockNet). between.net) (filter (λ (between : BlockNet). between.global) (block_nets packed)) in
      same_truth (has globals net) (is_global packed.circuit net) there back
    where
      there : has (map (λ (between : BlockNet). between.net) (filter (λ (between : BlockNet). between.global) (block_nets packed))) net ≡ true → is_global packed.circuit net ≡ true
      there h =
          let globals = filter (λ (between : BlockNet). between.global) (block_nets packed) in
          let q = from_map (λ (between : BlockNet). between.net) globals net (from_has (map (λ (between : BlockNet). between.net) globals) net h) in
          let kept = from_filter (λ (between : BlockNet). between.global) (block_nets packed) q.0 q.1 in
          let outer = from_flat_map (λ (block : ℕ × Block). map (block_net packed block.0) (nets_from packed block.0 block.1)) (enumerate_from 0 (blocks_of packed)) q.0 kept.0 in
          let inner = from_map (block_net packed outer.0.0) (nets_from packed outer.0.0 outer.0.1) q.0 outer.2 in
          let named : inner.0 ≡ net = ap (λ (between : BlockNet). between.net) inner.2 ∙ q.2 in
          let global : is_global packed.circuit inner.0 ≡ true = ap (λ (between : BlockNet). between.global) inner.2 ∙ kept.1 in
          sym (ap (is_global packed.circuit) named) ∙ global

      back : is_global packed.circuit net ≡ true → has (map (λ (between : BlockNet). between.net) (filter (λ (between : BlockNet). between.global) (block_nets packed))) net ≡ true
      back is =
          let globals = filter (λ (between : BlockNet). between.global) (block_nets packed) in
          let entry = global_entry packed lawful laws net is in
          let kept = to_filter (λ (between : BlockNet). between.global) (block_nets packed) entry.between entry.there (entry.global ∙ is) in
          let named = to_map (λ (between : BlockNet). between.net) globals entry.between kept in
          to_has (map (λ (between : BlockNet). between.net) globals) net (subst (λ n. Contains (map (λ (between : BlockNet). between.net) globals) n) entry.same named)

  pub all_wanted : All (λ (laid : LaidBlock). (net : ℕ) → wants packed.arch net laid ≡ true → has (map (λ (between : LaidNet). between.net) (layout_of packed places routes).nets) net ≡ true) (layout_of packed places routes).blocks
  unfolding layout_of
  all_wanted =
      let f : ℕ × BlockNet → LaidNet = λ net. laid_net net.1 (get_or routes net.0 []) in
      let named : List ℕ = map (λ (between : LaidNet). between.net) (map f (enumerate_from 0 (block_nets packed))) in
      let es = enumerate_from 0 (blocks_of packed) in
      all_members (λ (laid : LaidBlock). (net : ℕ) → wants packed.arch net laid ≡ true → has named net ≡ true) (map (laid_at packed places) es) (λ laid c net wanted.
      let q = from_map (laid_at packed places) es laid c in
      let at = block_number packed places lawful laws q.0 q.1 in
      let read = sym (wanted_as_read packed lawful laws net q.0.1 (place_of places q.0.0) (block_is_there packed q.0.0 q.0.1 at.0)) ∙ ap (wants packed.arch net) q.2 ∙ wanted in
      let entry = read_entry packed lawful laws net q.0.0 q.0.1 at.0 q.1 read in
      let there = to_map (λ (between : BlockNet). between.net) (block_nets packed) entry.between entry.there in
      ap (λ (nets : List ℕ). has nets net) (names routes 0 (block_nets packed))
      ∙ to_has (map (λ (between : BlockNet). between.net) (block_nets packed)) net (subst (λ n. Contains (map (λ (between : BlockNet). between.net) (block_nets packed)) n) entry.same there))
