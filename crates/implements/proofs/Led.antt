-- Each tree of the layout of results leads from the source of the block that drives its net to the
-- sinks of just the blocks at which the net is wanted.
use Rattle.implements.proofs.Prelude.{get_or, ◌≡◌, ℕ, suc, zero, ◌<◌, Bool, true, false, ◌&&◌, ◌==◌, not, List, [], ◌∷◌, cond, filter, length, map, Some, slice_get, sym, ap, refl, ◌∙◌, subst, arith, Contains, AllZip, enumerate_from, eqb-true, get_or_default, get_or_from_slice_get, block_at, place_of, PackedCircuit, BlockNet, block_net, block_nets, blocks_of, is_global, nets_from, reads_net, readers_of, IsPacked, IsLawfulPacking, Block, Cluster, Strip, Place, IsLegal, IsRouted, net_sinks, net_source, sink_at, Node, block_is_there, sinks_of, wants, laid_net, layout_of, LaidBlock}
use Rattle.implements.proofs.Between.{wanted_as_read}
use Rattle.implements.proofs.Members.{from_flat_map, from_map, in_first, in_later}
use Rattle.implements.proofs.Ports.{block_is, laid_at, numbered, place_is}
use Rattle.implements.proofs.Trees.{driver_reads_not}

-- two lists that go together, at a place
zip_at : {A B : Type 0} (R : A → B → Type 0) (xs : List A) (ys : List B) (k : ℕ) (d : A) (e : B) → AllZip R xs ys → k < length xs → R (get_or xs k d) (get_or ys k e)
zip_at R [] ys k d e all small = absurd (omega (arith, small))
zip_at R (x ∷ xs) [] k d e all small = absurd all
zip_at R (x ∷ xs) (y ∷ ys) zero d e all small = all.0
zip_at R (x ∷ xs) (y ∷ ys) (suc k) d e all small = zip_at R xs ys k d e all.1 (omega (arith, small))

module _ (packed : PackedCircuit) (places : List Place) (lawful : IsPacked packed) (laws : IsLawfulPacking packed) where
  abbrev left : LaidBlock → Node
  left laid = sink_at laid.block laid.place

  abbrev right : ℕ → Node
  right reader = sink_at (block_at packed reader) (place_of places reader)

  abbrev reader : ℕ → ℕ → ℕ × Block → Bool
  reader driver net block = not (block.0 == driver) && reads_net packed net block.1

  -- the sinks at which a net is wanted are those of its readers, in order
  same_sinks : (driver net : ℕ) (es : List (ℕ × Block)) → ((e : ℕ × Block) → Contains es e → (block_at packed e.0 ≡ e.1) × (wants packed.arch net (laid_at packed places e) ≡ reader driver net e)) →
      map left (filter (wants packed.arch net) (map (laid_at packed places) es)) ≡ map right (map (λ (block : ℕ × Block). block.0) (filter (reader driver net) es))
  same_sinks driver net [] each = refl
  same_sinks driver net (e ∷ es) each =
      let here = each e (in_first e es) in
      let ih = same_sinks driver net es (λ other c. each other (in_later e other es c)) in
      ap (λ (b : Bool). map left (cond b (laid_at packed places e ∷ filter (wants packed.arch net) (map (laid_at packed places) es)) (filter (wants packed.arch net) (map (laid_at packed places) es)))) here.1
      ∙ by (reader driver net e) here.0 ih
    where
      by : (b : Bool) → block_at packed e.0 ≡ e.1 → map left (filter (wants packed.arch net) (map (laid_at packed places) es)) ≡ map right (map (λ (block : ℕ × Block). block.0) (filter (reader driver net) es)) →
          map left (cond b (laid_at packed places e ∷ filter (wants packed.arch net) (map (laid_at packed places) es)) (filter (wants packed.arch net) (map (laid_at packed places) es)))
          ≡ map right (map (λ (block : ℕ × Block). block.0) (cond b (e ∷ filter (reader driver net) es) (filter (reader driver net) es)))
      by true at rest =
          let block : (laid_at packed places e).block ≡ block_at packed e.0 = block_is packed e.1 (place_of places e.0) ∙ sym at in
          let head : left (laid_at packed places e) ≡ right e.0 =
          ap (λ (b : Block). sink_at b (laid_at packed places e).place) block ∙ ap (sink_at (block_at packed e.0)) (place_is packed e.1 (place_of places e.0)) in
          ap (λ (n : Node). n ∷ map left (filter (wants packed.arch net) (map (laid_at packed places) es))) head
          ∙ ap (λ (l : List Node). right e.0 ∷ l) rest
      by false at rest = rest

  -- a block by its number
  pub block_number : (e : ℕ × Block) → Contains (enumerate_from 0 (blocks_of packed)) e → (slice_get (blocks_of packed) e.0 ≡ Some e.1) × (block_at packed e.0 ≡ e.1)
  block_number e c = grind (arith, numbered 0 (blocks_of packed) e.0 e.1 c, get_or_from_slice_get (blocks_of packed) e.0 e.1 (Cluster 0))

  -- a net that is not global
  fabric_sinks : (driver : ℕ × Block) (net : ℕ) → Contains (enumerate_from 0 (blocks_of packed)) driver → Contains (nets_from packed driver.0 driver.1) net → is_global packed.circuit net ≡ false →
      map left (filter (wants packed.arch net) (map (laid_at packed places) (enumerate_from 0 (blocks_of packed)))) ≡ map right (readers_of packed driver.0 net)
  fabric_sinks driver net there drives is = same_sinks driver.0 net (enumerate_from 0 (blocks_of packed)) each
    where
      each : (e : ℕ × Block) → Contains (enumerate_from 0 (blocks_of packed)) e → (block_at packed e.0 ≡ e.1) × (wants packed.arch net (laid_at packed places e) ≡ reader driver.0 net e)
      each e c =
          let mine = block_number e c in
          let its = block_number driver there in
          let wanted = wanted_as_read packed lawful laws net e.1 (place_of places e.0) (block_is_there packed e.0 e.1 mine.0) in
          let reads_not = driver_reads_not packed lawful driver.0 net driver.1 (block_is_there packed driver.0 driver.1 its.0) drives is in
          (mine.1, wanted ∙ by (e.0 == driver.0) refl mine.1 its.1 reads_not)
        where
          by : (b : Bool) → (e.0 == driver.0) ≡ b → block_at packed e.0 ≡ e.1 → block_at packed driver.0 ≡ driver.1 → reads_net packed net driver.1 ≡ false → reads_net packed net e.1 ≡ (not b && reads_net packed net e.1)
          by true same mine its reads_not =
              let block : e.1 ≡ driver.1 = sym mine ∙ ap (block_at packed) (eqb-true e.0 driver.0 same) ∙ its in
              ap (reads_net packed net) block ∙ reads_not
          by false other mine its reads_not = refl

  -- the tree of the net of that number
  pub led : (strip : Strip) (routes : List (List (List Node))) → IsLegal packed.arch strip packed places routes → (number : ℕ) (d : BlockNet) → number < length (block_nets packed) →
      IsRouted packed.arch strip (net_source packed places (get_or (block_nets packed) number d)) (sinks_of packed.circuit packed.arch (layout_of packed places routes) (get_or (block_nets packed) number d).net)
      (laid_net (get_or (block_nets packed) number d) (get_or routes number [])).paths
  unfolding layout_of
  led strip routes legal number d small =
      let between = get_or (block_nets packed) number d in
      let routed = zip_at (λ (net : BlockNet) (paths : List (List Node)). IsRouted packed.arch strip (net_source packed places net) (net_sinks packed places net) paths) (block_nets packed) routes number d [] legal.routed small in
      let in' : Contains (block_nets packed) between = (number, small, get_or_default (block_nets packed) number between d small) in
      let outer = from_flat_map (λ (block : ℕ × Block). map (block_net packed block.0) (nets_from packed block.0 block.1)) (enumerate_from 0 (blocks_of packed)) between in' in
      let inner = from_map (block_net packed outer.0.0) (nets_from packed outer.0.0 outer.0.1) between outer.2 in
      subst (λ (net : BlockNet). IsRouted packed.arch strip (net_source packed places net) (sinks_of packed.circuit packed.arch (layout_of packed places routes) net.net) (laid_net net (get_or routes number [])).paths) inner.2
      (by (is_global packed.circuit inner.0) refl outer.0 inner.0 outer.1 inner.1 refl
      (subst (λ (net : BlockNet). IsRouted packed.arch strip (net_source packed places net) (net_sinks packed places net) (get_or routes number [])) (sym inner.2) routed))
    where
      by : (b : Bool) → b ≡ b → (driver : ℕ × Block) (net : ℕ) → Contains (enumerate_from 0 (blocks_of packed)) driver → Contains (nets_from packed driver.0 driver.1) net → is_global packed.circuit net ≡ b →
          IsRouted packed.arch strip (net_source packed places (block_net packed driver.0 net)) (net_sinks packed places (block_net packed driver.0 net)) (get_or routes number []) →
          IsRouted packed.arch strip (net_source packed places (block_net packed driver.0 net)) (sinks_of packed.circuit packed.arch (layout_of packed places routes) net) (laid_net (block_net packed driver.0 net) (get_or routes number [])).paths
      by true e driver net there drives is routed =
          let source = net_source packed places (block_net packed driver.0 net) in
          subst (λ (g : Bool). IsRouted packed.arch strip source (cond g [] (map left (filter (wants packed.arch net) (map (laid_at packed places) (enumerate_from 0 (blocks_of packed)))))) (cond g [] (get_or routes number []))) (sym is) refl
      by false e driver net there drives is routed =
          let source = net_source packed places (block_net packed driver.0 net) in
          let plain : IsRouted packed.arch strip source (map right (readers_of packed driver.0 net)) (get_or routes number []) =
          subst (λ (g : Bool). IsRouted packed.arch strip source (cond g [] (map right (readers_of packed driver.0 net))) (get_or routes number [])) is routed in
          subst (λ (g : Bool). IsRouted packed.arch strip source (cond g [] (map left (filter (wants packed.arch net) (map (laid_at packed places) (enumerate_from 0 (blocks_of packed)))))) (cond g [] (get_or routes number []))) (sym is)
          (subst (λ (sinks : List Node). IsRouted packed.arch strip source sinks (get_or routes number [])) (sym (fabric_sinks driver net there drives is)) plain)
