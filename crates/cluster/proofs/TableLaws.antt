-- The tables of a packed circuit.
use Rattle.cluster.proofs.Prelude.{◌≡◌, ap, ◌∙◌, ℕ, ◌<◌, ◌++◌, List, [], Some, length, slice_get, arith, length-map-range_with_len, get_or_from_slice_get, slice_get_within, Arch, Circuit, NetUses, PackedTables, distinct_nets, NetsAmong, LogicElement, bles_of, PackedCircuit, BlockNet, leaves_block, inputs_of_clusters, clocks_of_clusters, readers_by_net, pin_ranks, controls_of, input_nets, cluster_nets, leaves_by, IsPacked, ArePartsOf, AreTablesOf}
use Rattle.cluster.proofs.BlockLists.{leaves_by_uses, nets_by_uses}
use Rattle.cluster.proofs.FewBlocks.{elements_within}

-- a row for each net
pub uses_count : (circuit : Circuit) (elements : List LogicElement) (clusters : List (List ℕ)) (uses : NetUses) → uses.globals ≡ record { count = length circuit.nets; nets = distinct_nets (controls_of circuit.latches) } → uses.readers ≡ readers_by_net circuit elements clusters → length uses.readers ≡ uses.globals.count
uses_count circuit elements clusters uses globals readers = grind (arith, length-map-range_with_len)

-- the tables that were built are those of the packed circuit
pub tables_made : (circuit : Circuit) (arch : Arch) (elements : List LogicElement) (clusters : List (List ℕ)) (tables : PackedTables) (none inputs : List BlockNet) → elements ≡ bles_of circuit → IsPacked (record { circuit = circuit; arch = arch; clusters = clusters }) → tables.inputs ≡ inputs_of_clusters elements clusters → tables.clocks ≡ clocks_of_clusters elements clusters
    → tables.uses.globals ≡ record { count = length circuit.nets; nets = distinct_nets (controls_of circuit.latches) } → tables.uses.readers ≡ readers_by_net circuit elements clusters → none ≡ [] → inputs ≡ none ++ input_nets circuit tables.uses (length circuit.inputs) → tables.nets ≡ inputs ++ cluster_nets circuit tables.uses elements clusters (length clusters) → tables.ranks.items ≡ pin_ranks arch.pins
    → AreTablesOf (record { circuit = circuit; arch = arch; clusters = clusters }) tables
tables_made circuit arch elements clusters tables none inputs elements_are lawful inputs_are clocks_are globals readers nothing input_nets_are nets_are ranks =
    let packed : PackedCircuit = record { circuit = circuit; arch = arch; clusters = clusters } in
    let all_readers : tables.uses.readers ≡ readers_by_net circuit (bles_of circuit) clusters = readers ∙ ap (λ (elements : List LogicElement). readers_by_net circuit elements clusters) elements_are in
    record {
      inputs = inputs_are ∙ ap (λ (elements : List LogicElement). inputs_of_clusters elements clusters) elements_are;
      clocks = clocks_are ∙ ap (λ (elements : List LogicElement). clocks_of_clusters elements clusters) elements_are;
      globals = globals;
      readers = all_readers;
      nets =
          nets_are
          ∙ ap (λ (front : List BlockNet). front ++ cluster_nets circuit tables.uses elements clusters (length clusters)) (input_nets_are ∙ ap (λ (front : List BlockNet). front ++ input_nets circuit tables.uses (length circuit.inputs)) nothing)
          ∙ ap (λ (elements : List LogicElement). input_nets circuit tables.uses (length circuit.inputs) ++ cluster_nets circuit tables.uses elements clusters (length clusters)) elements_are
          ∙ nets_by_uses packed tables.uses lawful (record { globals = globals; readers = all_readers });
      ranks = ranks;
    }

-- the net that a BLE drives is covered by the tables
pub ble_within : (packed : PackedCircuit) (elements : List LogicElement) (tables : PackedTables) (number : ℕ) (element : LogicElement) → ArePartsOf packed elements tables → slice_get elements number ≡ Some element → (element.output < tables.uses.globals.count) × (element.output < length tables.uses.readers)
ble_within packed elements tables number element parts read = grind (arith, elements_within, uses_count, get_or_from_slice_get elements number element element read, slice_get_within elements number element read)

-- whether a net leaves its block
pub leaves_told : (packed : PackedCircuit) (elements : List LogicElement) (tables : PackedTables) (number : ℕ) (element : LogicElement) → ArePartsOf packed elements tables → slice_get elements number ≡ Some element → (block driver : ℕ) → block ≡ driver → leaves_by tables.uses block element.output ≡ leaves_block packed driver element.output
leaves_told packed elements tables number element parts read block driver same =
    let count : tables.uses.globals.count ≡ length packed.circuit.nets = ap (λ (set : NetsAmong). set.count) parts.kept.globals in
    let here = (ble_within packed elements tables number element parts read).0 in
    grind (arith, leaves_by_uses)
