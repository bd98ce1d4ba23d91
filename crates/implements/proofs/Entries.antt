-- The nets between blocks: each net that a block reads is one of them, and so is each that is
-- global; no net is two of them.
use Rattle.implements.proofs.Prelude.{◌≡◌, ◌≢◌, ℕ, ◌+◌, Bool, true, false, ◌&&◌, ◌||◌, ◌==◌, not, ltb, List, [], ◌∷◌, ◌++◌, filter, length, map, Some, slice_get, sym, ap, refl, ◌∙◌, inl, inr, subst, arith, append-nil, All, Contains, enumerate_from, flat_map, range_with_len, option_to_list, eqb-true, nat_tests, map-append, Latch, LookupTable, LogicElement, clocks_of, outside_inputs, distinct_nets, has, has-distinct, PackedCircuit, BlockNet, block_net, block_nets, blocks_of, elements_in, is_global, leaves_block, nets_from, reads_net, readers_of, IsPacked, IsLawfulPacking, Block, InputPad, OutputPad, Cluster, pairs_append, pairs_front, HasCluster, block_is_there}
use Rattle.ble_cluster.specs.Clusters.{outputs_of}
use Rattle.implements.proofs.Results.{packed_bles}
use Rattle.implements.proofs.DrivenNets.{DrivingBle, IsReadOutside, bles_drive, driven_by, read_by_ble}
use Rattle.implements.proofs.Inside.{at_member, enumerated}
use Rattle.implements.proofs.Members.{all_members, from_append, from_filter, from_flat_map, from_get, from_has, from_map, in_first, in_none, to_append_left, to_filter, to_flat_map, to_has, to_map}
use Rattle.implements.proofs.PackedBles.{by_kind, from_packed, in_clusters, packed_are, packed_apart, to_packed}
use Rattle.implements.proofs.Trees.{clocks_global, own_reads_not}
use Rattle.implements.proofs.Unique.{AreApart, apart_filtered, never_both}

-- what a block drives, also what doesn't leave it
abbrev own_nets : PackedCircuit → Block → List ℕ
own_nets packed (InputPad net) = net ∷ []
own_nets packed (OutputPad net) = []
own_nets packed (Cluster cluster) = outputs_of (elements_in packed cluster)

-- what of it is a net between blocks
abbrev goes_out : PackedCircuit → ℕ × Block → ℕ → Bool
goes_out packed (driver, InputPad input) net = true
goes_out packed (driver, OutputPad output) net = true
goes_out packed (driver, Cluster cluster) net = leaves_block packed driver net

module _ (packed : PackedCircuit) where
  own_of : (driver : ℕ) (block : Block) → filter (goes_out packed (driver, block)) (own_nets packed block) ≡ nets_from packed driver block
  own_of driver block = grind arith

  out_of_all : (es : List (ℕ × Block)) → flat_map (λ (e : ℕ × Block). filter (goes_out packed e) (own_nets packed e.1)) es ≡ flat_map (λ (e : ℕ × Block). nets_from packed e.0 e.1) es
  out_of_all [] = refl
  out_of_all (e ∷ es) = grind (arith, out_of_all es)

  names_of : (driver : ℕ) (nets : List ℕ) → map (λ (between : BlockNet). between.net) (map (block_net packed driver) nets) ≡ nets
  names_of driver [] = refl
  names_of driver (net ∷ nets) = ap (λ (l : List ℕ). net ∷ l) (names_of driver nets)

  names_from : (es : List (ℕ × Block)) → map (λ (between : BlockNet). between.net) (flat_map (λ (e : ℕ × Block). map (block_net packed e.0) (nets_from packed e.0 e.1)) es) ≡ flat_map (λ (e : ℕ × Block). nets_from packed e.0 e.1) es
  names_from [] = refl
  names_from (e ∷ es) = grind (arith, map-append, names_of, names_from es)

  of_block : (start : ℕ) (blocks : List Block) → flat_map (λ (e : ℕ × Block). own_nets packed e.1) (enumerate_from start blocks) ≡ flat_map (own_nets packed) blocks
  of_block start [] = refl
  of_block start (block ∷ blocks) = ap (λ (l : List ℕ). own_nets packed block ++ l) (of_block (start + 1) blocks)

  input_nets : (nets : List ℕ) → flat_map (own_nets packed) (map InputPad nets) ≡ nets
  input_nets [] = refl
  input_nets (net ∷ nets) = ap (λ (l : List ℕ). net ∷ l) (input_nets nets)

  output_nets : (nets : List ℕ) → flat_map (own_nets packed) (map OutputPad nets) ≡ []
  output_nets [] = refl
  output_nets (net ∷ nets) = output_nets nets

  outputs_over : (numbers : List ℕ) → flat_map (λ (number : ℕ). outputs_of (elements_in packed number)) numbers ≡ outputs_of (flat_map (elements_in packed) numbers)
  outputs_over [] = refl
  outputs_over (number ∷ numbers) = grind (arith, map-append, outputs_over numbers)

  -- all that is driven: the inputs, and what the BLEs drive
  all_driven : flat_map (own_nets packed) (blocks_of packed) ≡ packed.circuit.inputs ++ outputs_of (flat_map (packed_bles packed) (blocks_of packed))
  all_driven =
      let numbers = range_with_len 0 (length packed.clusters) in
      by_kind (own_nets packed) packed
      ∙ ap (λ (l : List ℕ). (l ++ flat_map (own_nets packed) (map OutputPad packed.circuit.outputs)) ++ flat_map (λ (number : ℕ). outputs_of (elements_in packed number)) numbers) (input_nets packed.circuit.inputs)
      ∙ ap (λ (l : List ℕ). (packed.circuit.inputs ++ l) ++ flat_map (λ (number : ℕ). outputs_of (elements_in packed number)) numbers) (output_nets packed.circuit.outputs)
      ∙ ap (λ (l : List ℕ). l ++ flat_map (λ (number : ℕ). outputs_of (elements_in packed number)) numbers) (append-nil packed.circuit.inputs)
      ∙ ap (λ (l : List ℕ). packed.circuit.inputs ++ l) (outputs_over numbers)
      ∙ ap (λ (l : List LogicElement). packed.circuit.inputs ++ outputs_of l) (in_clusters packed ∙ sym (packed_are packed))

  module _ (lawful : IsPacked packed) (laws : IsLawfulPacking packed) where
    -- no net is two of those between blocks
    pub names_apart : AreApart (map (λ (between : BlockNet). between.net) (block_nets packed))
    names_apart =
        let R : ℕ → ℕ → Type 0 = λ net other. net ≢ other in
        let outputs = outputs_of (flat_map (packed_bles packed) (blocks_of packed)) in
        let es = enumerate_from 0 (blocks_of packed) in
        let driven = bles_drive packed.circuit in
        let drivers = map (λ (table : LookupTable). table.output) packed.circuit.tables ++ map (λ (latch : Latch). latch.output) packed.circuit.latches in
        let all : AreApart (packed.circuit.inputs ++ outputs) =
        pairs_append R packed.circuit.inputs outputs (pairs_front R packed.circuit.inputs drivers lawful.circuit.driven_once) (packed_apart packed lawful laws)
        (all_members (λ net. All (R net) outputs) packed.circuit.inputs (λ net c. all_members (R net) outputs (λ other d same.
        let q = from_map (λ (element : LogicElement). element.output) (flat_map (packed_bles packed) (blocks_of packed)) other d in
        let made = driven q.0 (from_packed packed lawful laws q.0 q.1) in
        never_both packed.circuit.inputs drivers net lawful.circuit.driven_once c (subst (λ n. Contains drivers n) (q.2 ∙ sym same) made)))) in
        let own : AreApart (flat_map (λ (e : ℕ × Block). own_nets packed e.1) es) = subst AreApart (sym (of_block 0 (blocks_of packed) ∙ all_driven)) all in
        subst AreApart (out_of_all es ∙ sym (names_from es)) (apart_filtered (λ (e : ℕ × Block). own_nets packed e.1) (goes_out packed) es own)

    -- a net between blocks, of the circuit's net
    pub record HasEntry (net : ℕ) : Type 0 where
      pub between : BlockNet
      pub there : Contains (block_nets packed) between
      pub same : between.net ≡ net
      pub global : between.global ≡ is_global packed.circuit net

    entry_of : (driver : ℕ) (block : Block) (net : ℕ) → Contains (enumerate_from 0 (blocks_of packed)) (driver, block) → Contains (nets_from packed driver block) net → HasEntry net
    entry_of driver block net c own = record {
      between = block_net packed driver net;
      there = to_flat_map (λ (e : ℕ × Block). map (block_net packed e.0) (nets_from packed e.0 e.1)) (enumerate_from 0 (blocks_of packed)) (driver, block) (block_net packed driver net) c (to_map (block_net packed driver) (nets_from packed driver block) net own);
      same = refl;
      global = refl;
    }

    -- a block with its number
    numbered_block : (block : Block) → Contains (blocks_of packed) block → (number : ℕ) × (slice_get (blocks_of packed) number ≡ Some block) × Contains (enumerate_from 0 (blocks_of packed)) (number, block)
    numbered_block block c =
        let at = at_member (blocks_of packed) block c in
        let found : slice_get (enumerate_from 0 (blocks_of packed)) at.0 ≡ Some (0 + at.0, block) = enumerated 0 (blocks_of packed) at.0 block at.2 in
        let here : 0 + at.0 ≡ at.0 = omega arith in
        (at.0, at.2, subst (λ (n : ℕ). Contains (enumerate_from 0 (blocks_of packed)) (n, block)) here (from_get (enumerate_from 0 (blocks_of packed)) at.0 (0 + at.0, block) found).1)

    input_entry : (net : ℕ) → Contains packed.circuit.inputs net → HasEntry net
    input_entry net c =
        let pads = map InputPad packed.circuit.inputs in
        let outs = map OutputPad packed.circuit.outputs in
        let numbers = map Cluster (range_with_len 0 (length packed.clusters)) in
        let q = numbered_block (InputPad net) (to_append_left (pads ++ outs) numbers (InputPad net) (to_append_left pads outs (InputPad net) (to_map InputPad packed.circuit.inputs net c))) in
        entry_of q.0 (InputPad net) net q.2 (in_first net [])

    -- the block that a BLE is packed into
    record HasDriver (net : ℕ) : Type 0 where
      number : ℕ
      cluster : ℕ
      at : slice_get (blocks_of packed) number ≡ Some (Cluster cluster)
      listed : Contains (enumerate_from 0 (blocks_of packed)) (number, Cluster cluster)
      drives : Contains (outputs_of (elements_in packed cluster)) net

    driver_of : (net : ℕ) → DrivingBle packed.circuit lawful.circuit net → HasDriver net
    driver_of net ble =
        let q = from_flat_map (packed_bles packed) (blocks_of packed) ble.element (to_packed packed lawful laws ble.element ble.there) in
        by q.0 q.1 q.2
      where
        by : (block : Block) → Contains (blocks_of packed) block → Contains (packed_bles packed block) ble.element → HasDriver net
        by (InputPad input) c d = absurd (in_none ble.element d)
        by (OutputPad output) c d = absurd (in_none ble.element d)
        by (Cluster cluster) c d =
            let q = numbered_block (Cluster cluster) c in
            let drives = to_map (λ (element : LogicElement). element.output) (elements_in packed cluster) ble.element d in
            record { number = q.0; cluster = cluster; at = q.1; listed = q.2; drives = subst (λ n. Contains (outputs_of (elements_in packed cluster)) n) ble.drives drives }

    -- if it goes to another block, or is global
    leaving : (net : ℕ) (driver : HasDriver net) → leaves_block packed driver.number net ≡ true → HasEntry net
    leaving net driver leaves = search (entry_of, to_filter, arith)

    pub global_entry : (net : ℕ) → is_global packed.circuit net ≡ true → HasEntry net
    global_entry net is =
        let controls = flat_map (λ (latch : Latch). option_to_list latch.control) packed.circuit.latches in
        let read : IsReadOutside packed.circuit lawful.circuit net = record { place = inl (record { place = inr (inl (from_has controls net is)) }) } in
        elim (driven_by packed.circuit lawful.circuit net read) [
          | inl c ↦ input_entry net c
          | inr ble ↦ (let driver = driver_of net ble in leaving net driver (ap (λ (b : Bool). b || ltb 0 (length (readers_of packed driver.number net))) is))
        ]

    -- a net that is not global, and that a block reads
    fabric_entry : (net number : ℕ) (block : Block) → is_global packed.circuit net ≡ false → slice_get (blocks_of packed) number ≡ Some block → Contains (enumerate_from 0 (blocks_of packed)) (number, block) →
        reads_net packed net block ≡ true → HasDriver net → HasEntry net
    fabric_entry net number block is at listed reads driver = leaving net driver (leaves (number == driver.number) refl)
      where
        readers : ℕ → ℕ × Block → Bool
        readers driver block = not (block.0 == driver) && reads_net packed net block.1

        leaves : (b : Bool) → (number == driver.number) ≡ b → leaves_block packed driver.number net ≡ true
        leaves true same =
            let number_is : number ≡ driver.number = eqb-true number driver.number same in
            let both : Some block ≡ Some (Cluster driver.cluster) = sym at ∙ ap (slice_get (blocks_of packed)) number_is ∙ driver.at in
            let block_is : block ≡ Cluster driver.cluster = cc in
            let small = block_is_there packed driver.number (Cluster driver.cluster) driver.at in
            let not' = own_reads_not packed lawful driver.cluster net small (to_has (outputs_of (elements_in packed driver.cluster)) net driver.drives) is in
            let wrong : true ≡ false = sym reads ∙ ap (reads_net packed net) block_is ∙ not' in absurd cc
        leaves false other =
            let test : ℕ × Block → Bool = λ block. not (block.0 == driver.number) && reads_net packed net block.1 in
            let passes : test (number, block) ≡ true = ap (λ (b : Bool). not b && reads_net packed net block) other ∙ reads in
            let in' = to_map (λ (block : ℕ × Block). block.0) (filter test (enumerate_from 0 (blocks_of packed))) (number, block) (to_filter test (enumerate_from 0 (blocks_of packed)) (number, block) listed passes) in
            let some : ltb 0 (length (readers_of packed driver.number net)) ≡ true = grind (arith, nat_tests, in'.1) in
            ap (λ (b : Bool). b || ltb 0 (length (readers_of packed driver.number net))) is ∙ some

    -- what a block reads, a BLE or an output of the circuit does
    read_outside : (net : ℕ) (block : Block) → HasCluster packed block → Contains (blocks_of packed) block → reads_net packed net block ≡ true → is_global packed.circuit net ≡ false → IsReadOutside packed.circuit lawful.circuit net
    read_outside net (InputPad input) there c reads is = absurd cc
    read_outside net (OutputPad output) there c reads is = record { place = inl (record { place = inr (inr (subst (λ n. Contains packed.circuit.outputs n) (eqb-true output net reads) (shown output c))) }) }
      where
        shown : (output : ℕ) → Contains (blocks_of packed) (OutputPad output) → Contains packed.circuit.outputs output
        shown output c =
            let pads = map InputPad packed.circuit.inputs in
            let outs = map OutputPad packed.circuit.outputs in
            let numbers = map Cluster (range_with_len 0 (length packed.clusters)) in
            elim (from_append (pads ++ outs) numbers (OutputPad output) c) [
              | inl d ↦ elim (from_append pads outs (OutputPad output) d) [
                | inl e ↦ (let q = from_map InputPad packed.circuit.inputs (OutputPad output) e in let wrong = q.2 in absurd cc)
                | inr e ↦ (let q = from_map OutputPad packed.circuit.outputs (OutputPad output) e in let same = q.2 in let net_is : q.0 ≡ output = cc in subst (λ n. Contains packed.circuit.outputs n) net_is q.1)
              ]
              | inr d ↦ (let q = from_map Cluster (range_with_len 0 (length packed.clusters)) (OutputPad output) d in let wrong = q.2 in absurd cc)
            ]
    read_outside net (Cluster cluster) there c reads is = by (has (outside_inputs (elements_in packed cluster)) net) refl (has (clocks_of (elements_in packed cluster)) net) refl
      where
        by : (a : Bool) → has (outside_inputs (elements_in packed cluster)) net ≡ a → (b : Bool) → has (clocks_of (elements_in packed cluster)) net ≡ b → IsReadOutside packed.circuit lawful.circuit net
        by false outside false clock = let wrong : false ≡ true = sym (ap (λ (b : Bool). b || has (clocks_of (elements_in packed cluster)) net) outside ∙ clock) ∙ reads in absurd cc
        by false outside true clock = let wrong : false ≡ true = sym is ∙ clocks_global packed lawful cluster net there clock in absurd cc
        by true outside b eq =
            let elements = elements_in packed cluster in
            let inputs = flat_map (λ (element : LogicElement). element.inputs) elements in
            let read = (from_filter (λ net. not (has (outputs_of elements) net)) (distinct_nets inputs) net (from_has (outside_inputs elements) net outside)).0 in
            let q = from_flat_map (λ (element : LogicElement). element.inputs) elements net (from_has inputs net (sym (has-distinct inputs net) ∙ to_has (distinct_nets inputs) net read)) in
            let packed_in = to_flat_map (packed_bles packed) (blocks_of packed) (Cluster cluster) q.0 c q.1 in
            read_by_ble packed.circuit lawful.circuit q.0 net (from_packed packed lawful laws q.0 packed_in) q.2

    pub read_entry : (net number : ℕ) (block : Block) → slice_get (blocks_of packed) number ≡ Some block → Contains (enumerate_from 0 (blocks_of packed)) (number, block) → reads_net packed net block ≡ true → HasEntry net
    read_entry net number block at listed reads = by (is_global packed.circuit net) refl
      where
        by : (b : Bool) → is_global packed.circuit net ≡ b → HasEntry net
        by true is = global_entry net is
        by false is =
            let read = read_outside net block (block_is_there packed number block at) (from_get (blocks_of packed) number block at).1 reads is in
            elim (driven_by packed.circuit lawful.circuit net read) [
              | inl c ↦ input_entry net c
              | inr ble ↦ fabric_entry net number block is at listed reads (driver_of net ble)
            ]
