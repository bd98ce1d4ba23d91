-- No BLE of the layout of results has more inputs than a table.
use Rattle.implements.proofs.Prelude.{get_or, ℕ, ◌+◌, ◌<◌, ◌≤◌, List, [], ◌∷◌, ◌++◌, length, map, Option, None, subst, arith, length-append, All, Contains, flat_map, option_to_list, get_or_default, All-nil, Circuit, Latch, IsNarrow, LookupTable, with_nets, LogicElement, bles_of, element_at, element_of_table, PackedCircuit, elements_in, IsPacked, IsLawfulPacking, Block, InputPad, OutputPad, Cluster, Place, Node, HasCluster, Feed, IsNarrowBle, feed_of, laid_ble, laid_block, layout_of, LaidBlock}
use Rattle.implements.proofs.Blocks.{each_block}
use Rattle.implements.proofs.BleMembers.{from_bles}
use Rattle.implements.proofs.Members.{all_members, from_map}

few_with_nets : (seen nets : List ℕ) → length (with_nets seen nets) ≤ length seen + length nets
few_with_nets seen [] = omega arith
few_with_nets seen (net ∷ nets) = grind (arith, length-append, few_with_nets seen nets, few_with_nets (seen ++ net ∷ []) nets)

few_feeds : (f : ℕ → Option Feed) (nets : List ℕ) → length (flat_map (λ net. option_to_list (f net)) nets) ≤ length nets
few_feeds f [] = omega arith
few_feeds f (net ∷ nets) = grind (arith, few_feeds f nets)

module _ (circuit : Circuit) (lut_size : ℕ) (one : 1 ≤ lut_size) (narrow : IsNarrow lut_size circuit) where
  of_table : (table : LookupTable) (o : Option Latch) → Contains circuit.tables table → length (element_of_table table o).inputs ≤ lut_size
  of_table table o c = grind (arith, few_with_nets)

  ble_few : (element : LogicElement) → Contains (bles_of circuit) element → length element.inputs ≤ lut_size
  ble_few element c = grind (arith, of_table, from_bles circuit element c)

pub all_narrow : (packed : PackedCircuit) (places : List Place) (routes : List (List (List Node))) → IsPacked packed → IsLawfulPacking packed → IsNarrow packed.arch.lut_size packed.circuit →
    All (λ (laid : LaidBlock). All (IsNarrowBle packed.arch) laid.bles) (layout_of packed places routes).blocks
unfolding layout_of
all_narrow packed places routes lawful laws narrow = each_block packed places lawful laws (λ (laid : LaidBlock). All (IsNarrowBle packed.arch) laid.bles) by
  where
    by : (block : Block) (place : Place) → HasCluster packed block → All (IsNarrowBle packed.arch) (laid_block packed block place).bles
    by (InputPad net) place there = All-nil (IsNarrowBle packed.arch)
    by (OutputPad net) place there = All-nil (IsNarrowBle packed.arch)
    by (Cluster cluster) place there = all_members (IsNarrowBle packed.arch) (map (laid_ble packed cluster) (elements_in packed cluster)) (λ ble c.
        let q = from_map (laid_ble packed cluster) (elements_in packed cluster) ble c in
        let members = get_or packed.clusters cluster [] in
        let m = from_map (element_at (bles_of packed.circuit)) members q.0 q.1 in
        let within : m.0 < length (bles_of packed.circuit) = subst (λ k. k < length (bles_of packed.circuit)) (m.1.2) (lawful.members cluster [] there m.1.0 m.0 m.1.1) in
        let none : LogicElement = record { inputs = []; output = 0; clock = None } in
        let in' : Contains (bles_of packed.circuit) q.0 = subst (λ (e : LogicElement). Contains (bles_of packed.circuit) e) m.2 (m.0, within, get_or_default (bles_of packed.circuit) m.0 (element_at (bles_of packed.circuit) m.0) none within) in
        let few = ble_few packed.circuit packed.arch.lut_size lawful.arch.lut_size.0 narrow q.0 in' in
        let feeds = few_feeds (feed_of packed cluster) q.0.inputs in
        subst (IsNarrowBle packed.arch) q.2 (omega (arith, few, feeds)))
