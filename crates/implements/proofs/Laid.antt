-- Each net between blocks of the layout of results is laid.
use Rattle.implements.proofs.Prelude.{get_or, ◌≡◌, ℕ, suc, zero, ◌+◌, ◌-◌, ◌<◌, ◌≤◌, Bool, true, false, ◌&&◌, ◌==◌, not, List, [], ◌∷◌, ◌++◌, cond, filter, length, map, Option, Some, None, slice_get, sym, ap, refl, ◌∙◌, inl, inr, ◌⊎◌, subst, arith, option_and_then, option_map, length-append, All, Contains, is_some, enumerate_from, range_with_len, nat_tests, get_or_default, length-map, get_or_from_slice_get, slice_get-map, Output, block_at, place_of, LogicElement, PackedCircuit, outputs_of, BlockNet, block_net, block_nets, blocks_of, net_on_pin, elements_in, is_global, leaves_block, nets_from, reads_net, IsPacked, IsLawfulPacking, Block, InputPad, OutputPad, Cluster, Strip, Place, IsLegal, IsRouted, source_at, Node, pin_with, block_is_there, IsLaid, drives, leaves_as, sinks_of, wants, laid_ble, laid_block, laid_net, layout_of, LaidBlock, LaidNet}
use Rattle.implements.proofs.Between.{wanted_as_read}
use Rattle.implements.proofs.Inside.{at_member, enumerated, pin_there}
use Rattle.implements.proofs.Led.{led, block_number}
use Rattle.implements.proofs.Members.{all_members, from_filter, from_flat_map, from_get, from_map, in_cases, in_first, in_later, in_none, to_any, to_map}
use Rattle.implements.proofs.Ports.{block_is, laid_at, numbered, place_is}

-- an element of two lists, one after the other
get_append : {X : Type 0} (xs ys : List X) (k : ℕ) (x : X) → slice_get (xs ++ ys) k ≡ Some x → (slice_get xs k ≡ Some x) ⊎ ((length xs ≤ k) × (slice_get ys (k - length xs) ≡ Some x))
get_append [] ys k x h = let at : k - 0 ≡ k = omega arith in inr (omega arith, ap (slice_get ys) at ∙ h)
get_append (y ∷ xs) ys zero x h = inl h
get_append (y ∷ xs) ys (suc k) x h = grind (arith, get_append xs ys k x h)

get_range : (start count k x : ℕ) → slice_get (range_with_len start count) k ≡ Some x → x ≡ start + k
get_range start zero k x h = absurd cc
get_range start (suc count) zero x h = let same : start ≡ x = cc in omega (arith, same)
get_range start (suc count) (suc k) x h = let rest = get_range (start + 1) count k x h in omega (arith, rest)

no_input : (nets : List ℕ) (k cluster : ℕ) → slice_get (map InputPad nets) k ≡ Some (Cluster cluster) → ⊥
no_input [] k cluster h = absurd cc
no_input (net ∷ nets) zero cluster h = let same : InputPad net ≡ Cluster cluster = cc in absurd cc
no_input (net ∷ nets) (suc k) cluster h = no_input nets k cluster h

no_output : (nets : List ℕ) (k cluster : ℕ) → slice_get (map OutputPad nets) k ≡ Some (Cluster cluster) → ⊥
no_output [] k cluster h = absurd cc
no_output (net ∷ nets) zero cluster h = let same : OutputPad net ≡ Cluster cluster = cc in absurd cc
no_output (net ∷ nets) (suc k) cluster h = no_output nets k cluster h

cluster_in : (numbers : List ℕ) (k cluster : ℕ) → slice_get (map Cluster numbers) k ≡ Some (Cluster cluster) → slice_get numbers k ≡ Some cluster
cluster_in [] k cluster h = absurd cc
cluster_in (number ∷ numbers) zero cluster h = let same : number ≡ cluster = cc in ap (λ (n : ℕ). Some n) same
cluster_in (number ∷ numbers) (suc k) cluster h = cluster_in numbers k cluster h

-- the number of the block that is a cluster
cluster_number : (packed : PackedCircuit) (k cluster : ℕ) → slice_get (blocks_of packed) k ≡ Some (Cluster cluster) → k ≡ length packed.circuit.inputs + length packed.circuit.outputs + cluster
cluster_number packed k cluster h = grind (arith, length-map, length-append, get_append, no_input, no_output, get_range, cluster_in)

-- a block drives the nets that are its own
module _ (packed : PackedCircuit) (places : List Place) (lawful : IsPacked packed) (laws : IsLawfulPacking packed) where
  drives_own : (number net : ℕ) (block : Block) (place : Place) → slice_get (blocks_of packed) number ≡ Some block → Contains (nets_from packed number block) net → drives net (laid_block packed block place) ≡ true
  drives_own number net (InputPad input) place at c = grind (arith, in_cases, nat_tests, in_none)
  drives_own number net (OutputPad output) place at c = absurd (in_none net c)
  drives_own number net (Cluster cluster) place at c =
      let elements = elements_in packed cluster in
      let small : cluster < length packed.clusters = block_is_there packed number (Cluster cluster) at in
      let fits = laws.fit cluster [] small in
      let few : length elements ≤ packed.arch.cluster_size = grind (arith, nat_tests, fits) in
      let pins = lawful.arch.outputs in
      let mine = from_filter (leaves_block packed number) (outputs_of elements) net c in
      let rank = at_member (outputs_of elements) net mine.0 in
      let long = length-map elements (λ (element : LogicElement). element.output) in
      let leaves : leaves_block packed (length packed.circuit.inputs + length packed.circuit.outputs + cluster) net ≡ true = ap (λ (n : ℕ). leaves_block packed n net) (sym (cluster_number packed number cluster at)) ∙ mine.1 in
      let f : ℕ → Option ℕ = λ net. cond (leaves_block packed (length packed.circuit.inputs + length packed.circuit.outputs + cluster) net) (Some net) None in
      let carries : net_on_pin packed cluster Output rank.0 ≡ Some net = ap (option_and_then f) rank.2 ∙ ap (λ (b : Bool). cond b (Some net) None) leaves in
      let pin = pin_there packed cluster place Output rank.0 net carries (omega (arith, rank.1, few, pins, long)) in
      let element = from_map (λ (element : LogicElement). element.output) elements net mine.0 in
      let ble = laid_ble packed cluster element.0 in
      let same : (ble.name == net) ≡ true = grind (arith, nat_tests, element.2) in
      let out : is_some ble.output ≡ true = ap is_some (ap (pin_with packed cluster Output) element.2 ∙ pin.1) in
      to_any (leaves_as net) (map (laid_ble packed cluster) elements) ble (to_map (laid_ble packed cluster) elements element.0 element.1) (ap (λ (b : Bool). b && is_some ble.output) same ∙ out)

  -- the blocks listed with a net are its readers
  listed_is : (driver net start : ℕ) (blocks : List Block) → ((e : ℕ × Block) → Contains (enumerate_from start blocks) e → wants packed.arch net (laid_at packed places e) ≡ reads_net packed net e.1) →
      map (λ (block : ℕ × LaidBlock). block.0) (filter (λ (block : ℕ × LaidBlock). not (block.0 == driver) && wants packed.arch net block.1) (enumerate_from start (map (laid_at packed places) (enumerate_from start blocks))))
      ≡ map (λ (block : ℕ × Block). block.0) (filter (λ (block : ℕ × Block). not (block.0 == driver) && reads_net packed net block.1) (enumerate_from start blocks))
  listed_is driver net start [] each = refl
  listed_is driver net start (block ∷ blocks) each =
      let L = filter (λ (block : ℕ × LaidBlock). not (block.0 == driver) && wants packed.arch net block.1) (enumerate_from (start + 1) (map (laid_at packed places) (enumerate_from (start + 1) blocks))) in
      ap (λ (w : Bool). map (λ (block : ℕ × LaidBlock). block.0) (cond (not (start == driver) && w) ((start, laid_at packed places (start, block)) ∷ L) L)) (each (start, block) (in_first (start, block) (enumerate_from (start + 1) blocks)))
      ∙ by (not (start == driver) && reads_net packed net block) (listed_is driver net (start + 1) blocks (λ e c. each e (in_later (start, block) e (enumerate_from (start + 1) blocks) c)))
    where
      by : (b : Bool) → map (λ (block : ℕ × LaidBlock). block.0) (filter (λ (block : ℕ × LaidBlock). not (block.0 == driver) && wants packed.arch net block.1) (enumerate_from (start + 1) (map (laid_at packed places) (enumerate_from (start + 1) blocks))))
          ≡ map (λ (block : ℕ × Block). block.0) (filter (λ (block : ℕ × Block). not (block.0 == driver) && reads_net packed net block.1) (enumerate_from (start + 1) blocks)) →
          map (λ (block : ℕ × LaidBlock). block.0) (cond b ((start, laid_at packed places (start, block)) ∷ filter (λ (block : ℕ × LaidBlock). not (block.0 == driver) && wants packed.arch net block.1) (enumerate_from (start + 1) (map (laid_at packed places) (enumerate_from (start + 1) blocks)))) (filter (λ (block : ℕ × LaidBlock). not (block.0 == driver) && wants packed.arch net block.1) (enumerate_from (start + 1) (map (laid_at packed places) (enumerate_from (start + 1) blocks)))))
          ≡ map (λ (block : ℕ × Block). block.0) (cond b ((start, block) ∷ filter (λ (block : ℕ × Block). not (block.0 == driver) && reads_net packed net block.1) (enumerate_from (start + 1) blocks)) (filter (λ (block : ℕ × Block). not (block.0 == driver) && reads_net packed net block.1) (enumerate_from (start + 1) blocks)))
      by true rest = ap (λ (l : List ℕ). start ∷ l) rest
      by false rest = rest

  -- the net of that number is laid
  pub laid_is : (strip : Strip) (routes : List (List (List Node))) → IsLegal packed.arch strip packed places routes → (number : ℕ) (d : BlockNet) → number < length (block_nets packed) →
      IsLaid packed.circuit packed.arch strip (layout_of packed places routes) (laid_net (get_or (block_nets packed) number d) (get_or routes number []))
  unfolding layout_of
  laid_is strip routes legal number d small =
      let between = get_or (block_nets packed) number d in
      let in' : Contains (block_nets packed) between = (number, small, get_or_default (block_nets packed) number between d small) in
      let outer = from_flat_map (λ (block : ℕ × Block). map (block_net packed block.0) (nets_from packed block.0 block.1)) (enumerate_from 0 (blocks_of packed)) between in' in
      let inner = from_map (block_net packed outer.0.0) (nets_from packed outer.0.0 outer.0.1) between outer.2 in
      let at = block_number packed places lawful laws outer.0 outer.1 in
      subst (λ (net : BlockNet). IsLaid packed.circuit packed.arch strip (layout_of packed places routes) (laid_net net (get_or routes number []))) inner.2
      (one outer.0 inner.0 at.0 at.1 inner.1
      (subst (λ (net : BlockNet). IsRouted packed.arch strip (source_at (block_at packed net.driver) (place_of places net.driver)) (sinks_of packed.circuit packed.arch (layout_of packed places routes) net.net) (laid_net net (get_or routes number [])).paths) (sym inner.2)
      (led packed places lawful laws strip routes legal number d small)))
    where
      one : (e : ℕ × Block) (net : ℕ) → slice_get (blocks_of packed) e.0 ≡ Some e.1 → block_at packed e.0 ≡ e.1 → Contains (nets_from packed e.0 e.1) net →
          IsRouted packed.arch strip (source_at (block_at packed e.0) (place_of places e.0)) (sinks_of packed.circuit packed.arch (layout_of packed places routes) net) (laid_net (block_net packed e.0 net) (get_or routes number [])).paths →
          IsLaid packed.circuit packed.arch strip (layout_of packed places routes) (laid_net (block_net packed e.0 net) (get_or routes number []))
      one e net at same own tree =
          let blocks = blocks_of packed in
          let laid = laid_at packed places e in
          let here : 0 + e.0 ≡ e.0 = omega arith in
          let block : laid.block ≡ block_at packed e.0 = block_is packed e.1 (place_of places e.0) ∙ sym same in
          let source : source_at (block_at packed e.0) (place_of places e.0) ≡ source_at laid.block laid.place =
          ap (λ (b : Block). source_at b (place_of places e.0)) (sym block) ∙ ap (source_at laid.block) (sym (place_is packed e.1 (place_of places e.0))) in
          record {
            driver = e.0;
            block = laid;
            there = slice_get-map (laid_at packed places) (enumerate_from 0 blocks) e.0 ∙ ap (option_map (laid_at packed places)) (enumerated 0 blocks e.0 e.1 at) ∙ ap (λ (n : ℕ). Some (laid_block packed e.1 (place_of places n))) here;
            driven = drives_own e.0 net e.1 (place_of places e.0) at own;
            tree = subst (λ (s : Node). IsRouted packed.arch strip s (sinks_of packed.circuit packed.arch (layout_of packed places routes) net) (laid_net (block_net packed e.0 net) (get_or routes number [])).paths) source tree;
            listed = ap (λ (l : List ℕ). cond (is_global packed.circuit net) (e.0 ∷ l) []) (sym (listed_is e.0 net 0 blocks (λ other c.
                let n = block_number packed places lawful laws other c in
                wanted_as_read packed lawful laws net other.1 (place_of places other.0) (block_is_there packed other.0 other.1 n.0))));
          }

  -- and so are all
  pub all_laid : (strip : Strip) (routes : List (List (List Node))) → IsLegal packed.arch strip packed places routes → All (IsLaid packed.circuit packed.arch strip (layout_of packed places routes)) (layout_of packed places routes).nets
  unfolding layout_of
  all_laid strip routes legal =
      let f : ℕ × BlockNet → LaidNet = λ net. laid_net net.1 (get_or routes net.0 []) in
      all_members (IsLaid packed.circuit packed.arch strip (layout_of packed places routes)) (map f (enumerate_from 0 (block_nets packed))) (λ between c.
      let q = from_map f (enumerate_from 0 (block_nets packed)) between c in
      let n = numbered 0 (block_nets packed) q.0.0 q.0.1 q.1 in
      let number : q.0.0 ≡ n.0 = omega (arith, n.1) in
      let at : slice_get (block_nets packed) q.0.0 ≡ Some q.0.1 = ap (slice_get (block_nets packed)) number ∙ n.2 in
      let small = (from_get (block_nets packed) q.0.0 q.0.1 at).0 in
      let same : get_or (block_nets packed) q.0.0 q.0.1 ≡ q.0.1 = get_or_from_slice_get (block_nets packed) q.0.0 q.0.1 q.0.1 at in
      subst (IsLaid packed.circuit packed.arch strip (layout_of packed places routes)) q.2
      (subst (λ (net : BlockNet). IsLaid packed.circuit packed.arch strip (layout_of packed places routes) (laid_net net (get_or routes q.0.0 []))) same (laid_is strip routes legal q.0.0 q.0.1 small)))
