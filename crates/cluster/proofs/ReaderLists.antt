-- The blocks that read each net, gathered cluster by cluster.
use Rattle.cluster.proofs.Prelude.{◌≡◌, refl, sym, ap, subst, ◌∙◌, ℕ, ◌+◌, ◌<◌, Bool, cond, eqb, List, [], ◌∷◌, ◌++◌, All, length, take, get_or, map, filter, slice_index, arith, Some, flat_map, range_with_len, append-nil, append_assoc, map-id, map_more, flat_map-append, All-append, All-map, All-push, All-nil, map-range_with_len_more, get_or_from_slice_get, Circuit, Keyed, ClusterSets, with_nets, NetsAmong, LogicElement, elements_at, outside_inputs, clocks_of, items_with, items_by_key, TellReaders, inputs_of_clusters, clocks_of_clusters, nets_read, members_of, readers_by_net, pairs_with, items_with-append}
use Rattle.std.specs.Prelude.{slice_get}
use Rattle.cluster.proofs.NetLists.{StandsOnce, once_with_nets, filter-with_nets}

-- the nets of the first `count` clusters are gathered
pub record AreGathered (circuit : Circuit) (elements : List LogicElement) (clusters : List (List ℕ)) (count : ℕ) (inputs clocks : List (List ℕ)) (pairs : List Keyed) (sets : ClusterSets) : Type 0 where
  pub inputs_are : inputs ≡ inputs_of_clusters elements (take count clusters)
  pub clocks_are : clocks ≡ clocks_of_clusters elements (take count clusters)
  pub pairs_tell : TellReaders circuit elements clusters (length circuit.outputs) count pairs
  pub input_nets : sets.inputs.count ≡ length circuit.nets
  pub output_nets : sets.outputs.count ≡ length circuit.nets
  pub clock_nets : sets.clocks.count ≡ length circuit.nets

-- one more number in a `flat_map` over numbers
pub flat_map-range_more : {A : Type 0} (f : ℕ → List A) (count : ℕ) → flat_map f (range_with_len 0 (count + 1)) ≡ flat_map f (range_with_len 0 count) ++ f count
flat_map-range_more {A} f count =
    let id : ℕ → ℕ = λ (n : ℕ). n in
    let more : range_with_len 0 (count + 1) ≡ range_with_len 0 count ++ count ∷ [] =
    sym (map-id (range_with_len 0 (count + 1))) ∙ map-range_with_len_more id 0 count count (omega arith) ∙ ap (λ (front : List ℕ). front ++ count ∷ []) (map-id (range_with_len 0 count)) in
    ap (flat_map f) more ∙ flat_map-append f (range_with_len 0 count) (count ∷ []) ∙ ap (λ (last : List A). flat_map f (range_with_len 0 count) ++ last) (append-nil (f count))

-- no pads and no clusters have no pairs
pub tell_none : (circuit : Circuit) (elements : List LogicElement) (clusters : List (List ℕ)) (pairs : List Keyed) → pairs ≡ [] → TellReaders circuit elements clusters 0 0 pairs
tell_none circuit elements clusters pairs none = subst (TellReaders circuit elements clusters 0 0) (sym none) (record { within = All-nil (λ (pair : Keyed). pair.key < length circuit.nets); tell = λ net. refl })

-- one more pad
pub tell_pad : (circuit : Circuit) (elements : List LogicElement) (clusters : List (List ℕ)) (pad : ℕ) (old new : List Keyed) → slice_index circuit.outputs pad < length circuit.nets → TellReaders circuit elements clusters pad 0 old → new ≡ old ++ record { key = slice_index circuit.outputs pad; item = length circuit.inputs + pad } ∷ [] → TellReaders circuit elements clusters (pad + 1) 0 new
tell_pad circuit elements clusters pad old new net_within before more =
    let last : Keyed = record { key = slice_index circuit.outputs pad; item = length circuit.inputs + pad } in
    subst (TellReaders circuit elements clusters (pad + 1) 0) (sym more) (record {
      within = All-push (λ (pair : Keyed). pair.key < length circuit.nets) old last before.within net_within;
      tell = grind (arith, items_with-append, append-nil, flat_map-range_more);
    })

-- each outside input occurs once
once_outside : (elements : List LogicElement) (net : ℕ) → StandsOnce (outside_inputs elements) net
once_outside elements net = grind (arith, filter-with_nets, once_with_nets)

-- the item is listed for each of the nets
items_of_pairs : (item : ℕ) (nets : List ℕ) (net : ℕ) → items_with (pairs_with item nets) net ≡ map (λ (other : ℕ). item) (filter (λ other. eqb other net) nets)
items_of_pairs item [] net = refl
items_of_pairs item (other ∷ nets) net = grind (arith, items_of_pairs item nets net)

one_item : (b : Bool) (item net : ℕ) → map (λ (other : ℕ). item) (cond b (net ∷ []) []) ≡ cond b (item ∷ []) []
one_item b item net = grind arith

-- one more cluster
pub tell_cluster : (circuit : Circuit) (elements : List LogicElement) (clusters : List (List ℕ)) (cluster : ℕ) (nets : List ℕ) (old new : List Keyed) → All (λ net. net < length circuit.nets) nets → nets ≡ nets_read (members_of elements clusters cluster) → TellReaders circuit elements clusters (length circuit.outputs) cluster old → new ≡ old ++ pairs_with (length circuit.inputs + length circuit.outputs + cluster) nets → TellReaders circuit elements clusters (length circuit.outputs) (cluster + 1) new
tell_cluster circuit elements clusters cluster nets old new nets_within nets_are before more =
    let item = length circuit.inputs + length circuit.outputs + cluster in
    let members = members_of elements clusters cluster in
    subst (TellReaders circuit elements clusters (length circuit.outputs) (cluster + 1)) (sym more) (record {
      within = All-append (λ (pair : Keyed). pair.key < length circuit.nets) old (pairs_with item nets) before.within (All-map (λ (pair : Keyed). pair.key < length circuit.nets) (λ net. record { key = net; item = item }) nets nets_within);
      tell = grind (arith, once_with_nets, once_outside, items_of_pairs, items_with-append, append_assoc, flat_map-range_more);
    })

-- the readers of all nets, once all pads and clusters are gathered
pub told_all : (circuit : Circuit) (elements : List LogicElement) (clusters : List (List ℕ)) (pairs : List Keyed) → TellReaders circuit elements clusters (length circuit.outputs) (length clusters) pairs → items_by_key pairs (length circuit.nets) ≡ readers_by_net circuit elements clusters
told_all circuit elements clusters pairs told = grind arith

-- one more cluster is gathered
pub gathered_more : (circuit : Circuit) (elements : List LogicElement) (clusters : List (List ℕ)) (k : ℕ) (members : List ℕ) (old_inputs old_clocks new_inputs new_clocks : List (List ℕ)) (old_pairs new_pairs : List Keyed) (sets gathered : ClusterSets) (read : NetsAmong) → k < length clusters → slice_get clusters k ≡ Some members → AreGathered circuit elements clusters k old_inputs old_clocks old_pairs sets
    → gathered.inputs ≡ record { count = sets.inputs.count; nets = outside_inputs (elements_at elements members) } → gathered.clocks ≡ record { count = sets.inputs.count; nets = clocks_of (elements_at elements members) } → gathered.outputs.count ≡ sets.inputs.count
    → new_inputs ≡ old_inputs ++ gathered.inputs.nets ∷ [] → new_clocks ≡ old_clocks ++ gathered.clocks.nets ∷ [] → read ≡ record { count = gathered.inputs.count; nets = with_nets gathered.inputs.nets gathered.clocks.nets } → All (λ net. net < read.count) read.nets
    → new_pairs ≡ old_pairs ++ pairs_with (length circuit.inputs + length circuit.outputs + k) read.nets → AreGathered circuit elements clusters (k + 1) new_inputs new_clocks new_pairs (record { outputs = gathered.outputs; inputs = read; clocks = gathered.clocks })
gathered_more circuit elements clusters k members old_inputs old_clocks new_inputs new_clocks old_pairs new_pairs sets gathered read within found before inputs clocks outputs more_inputs more_clocks read_is read_within more_pairs =
    let at : get_or clusters k [] ≡ members = get_or_from_slice_get clusters k members [] found in
    let input_nets : gathered.inputs.nets ≡ outside_inputs (elements_at elements (get_or clusters k [])) = ap (λ (set : NetsAmong). set.nets) inputs ∙ ap (λ (members : List ℕ). outside_inputs (elements_at elements members)) (sym at) in
    let clock_nets : gathered.clocks.nets ≡ clocks_of (elements_at elements (get_or clusters k [])) = ap (λ (set : NetsAmong). set.nets) clocks ∙ ap (λ (members : List ℕ). clocks_of (elements_at elements members)) (sym at) in
    let count : read.count ≡ length circuit.nets = ap (λ (set : NetsAmong). set.count) read_is ∙ ap (λ (set : NetsAmong). set.count) inputs ∙ before.input_nets in
    let nets : read.nets ≡ nets_read (members_of elements clusters k) = ap (λ (set : NetsAmong). set.nets) read_is ∙ ap (λ (first : List ℕ). with_nets first gathered.clocks.nets) input_nets ∙ ap (with_nets (outside_inputs (elements_at elements (get_or clusters k [])))) clock_nets in
    record {
      inputs_are = more_inputs ∙ ap (λ (rows : List (List ℕ)). rows ++ gathered.inputs.nets ∷ []) before.inputs_are ∙ ap (λ (row : List ℕ). inputs_of_clusters elements (take k clusters) ++ row ∷ []) input_nets ∙ sym (map_more (λ (members : List ℕ). outside_inputs (elements_at elements members)) clusters k [] within);
      clocks_are = more_clocks ∙ ap (λ (rows : List (List ℕ)). rows ++ gathered.clocks.nets ∷ []) before.clocks_are ∙ ap (λ (row : List ℕ). clocks_of_clusters elements (take k clusters) ++ row ∷ []) clock_nets ∙ sym (map_more (λ (members : List ℕ). clocks_of (elements_at elements members)) clusters k [] within);
      pairs_tell = tell_cluster circuit elements clusters k read.nets old_pairs new_pairs (subst (λ (count : ℕ). All (λ net. net < count) read.nets) count read_within) nets before.pairs_tell more_pairs;
      input_nets = count;
      output_nets = outputs ∙ before.input_nets;
      clock_nets = ap (λ (set : NetsAmong). set.count) clocks ∙ before.input_nets;
    }
