-- No two blocks have the same key.
use Rattle.cluster.proofs.Prelude.{◌≡◌, ◌≢◌, ℕ, ◌<◌, ◌⊎◌, inl, inr, List, [], ◌∷◌, ◌++◌, All, Option, Some, None, slice_get, length, get_or, map, refl, sym, ap, subst, ◌∙◌, arith, AllPairs, concat, range_with_len, cases_order, get_or-map, map-append, length-map, get_or-range_with_len, length-range_with_len, All-append, All-cons, All-head, All-map, All-nil, All-tail, AllPairs-cons, get_or_from_slice_get, slice_get-get_or, slice_get_within, Circuit, IsCircuit, Block, InputPad, OutputPad, Cluster, BlockKind, LogicElement, bles_of, element_at, PackedCircuit, block_name, blocks_of, net_name, seed_name, BlockKey, key_of, keys_of, IsPacked}
use Rattle.cluster.specs.declared.block.BlockKind.TheVariants as kind
use Rattle.cluster.proofs.FewBlocks.{elements_within}
use Rattle.cluster.proofs.Members.{ranged}
use Rattle.cluster.proofs.Outputs.{outputs_apart}
use Rattle.cluster.proofs.Pairs.{all_back, pairs_across, pairs_append, pairs_back, pairs_map, pairs_of_map, pairs_with}

-- the seed of a cluster, and the net that it drives
abbrev pub seed_at : List (List ℕ) → ℕ → ℕ
seed_at clusters cluster = get_or (get_or clusters cluster []) 0 0

abbrev pub seed_net : PackedCircuit → ℕ → ℕ
seed_net packed cluster = (element_at (bles_of packed.circuit) (seed_at packed.clusters cluster)).output

pub seed_named : (packed : PackedCircuit) (cluster : ℕ) → 0 < length (get_or packed.clusters cluster []) → block_name packed (Cluster cluster) ≡ net_name packed.circuit (seed_net packed cluster)
seed_named packed cluster some = by (get_or packed.clusters cluster []) refl some
  where
    by : (members : List ℕ) → get_or packed.clusters cluster [] ≡ members → 0 < length members → seed_name packed.circuit (map (element_at (bles_of packed.circuit)) (get_or packed.clusters cluster [])) ≡ net_name packed.circuit (element_at (bles_of packed.circuit) (get_or (get_or packed.clusters cluster []) 0 0)).output
    by [] is some = absurd (omega (arith, some))
    by (seed ∷ others) is some = rw is refl

-- seeds are BLEs
pub seed_within : (packed : PackedCircuit) → IsPacked packed → (cluster : ℕ) → cluster < length packed.clusters → seed_at packed.clusters cluster < length (bles_of packed.circuit)
seed_within packed lawful cluster lt = lawful.members cluster [] lt 0 0 (lawful.seeds cluster [] lt)

-- nets with equal names are equal
pub named_apart : (circuit : Circuit) → IsCircuit circuit → (net other : ℕ) → net < length circuit.nets → other < length circuit.nets → net ≢ other → net_name circuit net ≢ net_name circuit other
named_apart circuit lawful net other small also differs same = grind arith

-- the first elements of lists that have no common member are different
firsts_apart : (lists : List (List ℕ)) → All (λ list. 0 < length list) lists → AllPairs (λ number other. number ≢ other) (concat lists) → AllPairs (λ list other. get_or list 0 0 ≢ get_or other 0 0) lists
firsts_apart [] some apart = λ i j d before lt. absurd (omega (arith, lt))
firsts_apart ([] ∷ lists) some apart = absurd (let none = All-head (λ (list : List ℕ). 0 < length list) [] lists some in omega (arith, none))
firsts_apart ((first ∷ others) ∷ lists) some apart =
    let R : ℕ → ℕ → Type 0 = λ number other. number ≢ other in
    let rest = All-tail (λ (list : List ℕ). 0 < length list) (first ∷ others) lists some in
    let across = pairs_across R (first ∷ others) (concat lists) apart in
    AllPairs-cons (λ (list other : List ℕ). get_or list 0 0 ≢ get_or other 0 0) (first ∷ others) lists (each lists rest (All-head (λ number. All (R number) (concat lists)) first others across)) (firsts_apart lists rest (pairs_back R (first ∷ others) (concat lists) apart))
  where
    each : (lists : List (List ℕ)) → All (λ list. 0 < length list) lists → All (λ number. first ≢ number) (concat lists) → All (λ (list : List ℕ). first ≢ get_or list 0 0) lists
    each [] some all = All-nil (λ (list : List ℕ). first ≢ get_or list 0 0)
    each ([] ∷ lists) some all = absurd (let none = All-head (λ (list : List ℕ). 0 < length list) [] lists some in omega (arith, none))
    each ((seed ∷ members) ∷ lists) some all =
        All-cons (λ (list : List ℕ). first ≢ get_or list 0 0) (seed ∷ members) lists (All-head (λ number. first ≢ number) seed (members ++ concat lists) all)
        (each lists (All-tail (λ (list : List ℕ). 0 < length list) (seed ∷ members) lists some) (all_back (λ number. first ≢ number) (seed ∷ members) (concat lists) all))

module _ (packed : PackedCircuit) (lawful : IsPacked packed) where
  abbrev Differ : BlockKey → BlockKey → Type 0
  Differ key other = key ≢ other

  nets_differ : (make : ℕ → Block) (nets : List ℕ) → ((net : ℕ) → (key_of packed (make net)).name ≡ net_name packed.circuit net) → All (λ net. net < length packed.circuit.nets) nets → AllPairs (λ net other. net ≢ other) nets → AllPairs Differ (map (key_of packed) (map make nets))
  nets_differ make nets named inside apart =
      pairs_map Differ (key_of packed) (map make nets) (pairs_map (λ block other. key_of packed block ≢ key_of packed other) make nets
      (pairs_with (λ net. net < length packed.circuit.nets) (λ net other. net ≢ other) (λ net other. key_of packed (make net) ≢ key_of packed (make other)) nets inside apart
      (λ net other small also differs same. named_apart packed.circuit lawful.circuit net other small also differs (sym (named net) ∙ (ap (λ (key : BlockKey). key.name) same ∙ named other)))))

  -- the seeds' nets
  pub seed_nets_inside : (cluster : ℕ) → cluster < length packed.clusters → seed_net packed cluster < length packed.circuit.nets
  seed_nets_inside cluster lt = (elements_within packed.circuit lawful.circuit (seed_at packed.clusters cluster) _ (seed_within packed lawful cluster lt)).output

  some_seed : (cluster : ℕ) → cluster < length packed.clusters → 0 < length (get_or packed.clusters cluster [])
  some_seed cluster lt = lawful.seeds cluster [] lt

  abbrev no_element : LogicElement
  no_element = record { inputs = []; output = 0; clock = None }

  -- two BLEs drive different nets
  outputs_differ : (number other : ℕ) → number < length (bles_of packed.circuit) → other < length (bles_of packed.circuit) → number ≢ other → (element_at (bles_of packed.circuit) number).output ≢ (element_at (bles_of packed.circuit) other).output
  outputs_differ number other small also differs same = by (cases_order number other)
    where
      apart : AllPairs (λ (element other : LogicElement). element.output ≢ other.output) (bles_of packed.circuit)
      apart = pairs_of_map (λ net other. net ≢ other) (λ (element : LogicElement). element.output) (bles_of packed.circuit) (outputs_apart packed.circuit lawful.circuit)

      by : (number ≡ other) ⊎ ((number < other) ⊎ (other < number)) → ⊥
      by (inl e) = differs e
      by (inr (inl less)) = apart number other no_element less also same
      by (inr (inr more)) = apart other number no_element more small (sym same)

  clusters_differ : AllPairs (λ number other. number ≢ other) (concat packed.clusters) → AllPairs Differ (map (key_of packed) (map Cluster (range_with_len 0 (length packed.clusters))))
  clusters_differ once = pairs_map Differ (key_of packed) (map Cluster numbers) (pairs_map (λ block other. key_of packed block ≢ key_of packed other) Cluster numbers two)
    where
      numbers : List ℕ
      numbers = range_with_len 0 (length packed.clusters)

      two : AllPairs (λ cluster other. key_of packed (Cluster cluster) ≢ key_of packed (Cluster other)) (range_with_len 0 (length packed.clusters))
      two i j d before lt same =
          let count = length-range_with_len 0 (length packed.clusters) in
          let later : j < length packed.clusters = omega (arith, lt, count) in
          let earlier : i < length packed.clusters = omega (arith, before, later) in
          let one : get_or (range_with_len 0 (length packed.clusters)) i d ≡ i = get_or-range_with_len 0 (length packed.clusters) i d earlier ∙ omega arith in
          let other : get_or (range_with_len 0 (length packed.clusters)) j d ≡ j = get_or-range_with_len 0 (length packed.clusters) j d later ∙ omega arith in
          let keys : key_of packed (Cluster i) ≡ key_of packed (Cluster j) = sym (ap (λ c. key_of packed (Cluster c)) one) ∙ (same ∙ ap (λ c. key_of packed (Cluster c)) other) in
          let names : net_name packed.circuit (seed_net packed i) ≡ net_name packed.circuit (seed_net packed j) = sym (seed_named packed i (some_seed i earlier)) ∙ (ap (λ (key : BlockKey). key.name) keys ∙ seed_named packed j (some_seed j later)) in
          let seeds : seed_at packed.clusters i ≢ seed_at packed.clusters j = firsts_apart packed.clusters lawful.seeds once i j [] before later in
          named_apart packed.circuit lawful.circuit (seed_net packed i) (seed_net packed j) (seed_nets_inside i earlier) (seed_nets_inside j later)
          (outputs_differ (seed_at packed.clusters i) (seed_at packed.clusters j) (seed_within packed lawful i earlier) (seed_within packed lawful j later) seeds) names

  -- keys of one kind
  of_kind : (k : BlockKind) (make : ℕ → Block) (nets : List ℕ) → ((net : ℕ) → (key_of packed (make net)).kind ≡ k) → All (λ key. key.kind ≡ k) (map (key_of packed) (map make nets))
  of_kind k make nets is = All-map (λ key. key.kind ≡ k) (key_of packed) (map make nets) (All-map (λ block. (key_of packed block).kind ≡ k) make nets (λ i d lt. is (get_or nets i d)))

  -- keys of two kinds
  kinds_differ : (k l : BlockKind) (keys others : List BlockKey) → k ≢ l → All (λ key. key.kind ≡ k) keys → All (λ key. key.kind ≡ l) others → All (λ key. All (Differ key) others) keys
  kinds_differ k l keys others differs one two i d lt j e small same = differs (sym (one i d lt) ∙ (ap (λ (key : BlockKey). key.kind) same ∙ two j e small))

  pub keys_apart : AllPairs (λ number other. number ≢ other) (concat packed.clusters) → AllPairs (λ net other. net ≢ other) packed.circuit.inputs → AllPairs (λ key other. key ≢ other) (keys_of packed)
  keys_apart once inputs_once =
      let inputs = map (key_of packed) (map InputPad packed.circuit.inputs) in
      let outputs = map (key_of packed) (map OutputPad packed.circuit.outputs) in
      let clusters = map (key_of packed) (map Cluster (range_with_len 0 (length packed.clusters))) in
      let parts : keys_of packed ≡ (inputs ++ outputs) ++ clusters = grind (arith, map-append) in
      let of_inputs = of_kind kind.InputPad InputPad packed.circuit.inputs (λ net. refl) in
      let of_outputs = of_kind kind.OutputPad OutputPad packed.circuit.outputs (λ net. refl) in
      let of_clusters = of_kind kind.Cluster Cluster (range_with_len 0 (length packed.clusters)) (λ net. refl) in
      let pads : AllPairs Differ (inputs ++ outputs) =
      pairs_append Differ inputs outputs (nets_differ InputPad packed.circuit.inputs (λ net. refl) lawful.circuit.inputs inputs_once) (nets_differ OutputPad packed.circuit.outputs (λ net. refl) lawful.circuit.outputs lawful.circuit.shown_once)
      (kinds_differ kind.InputPad kind.OutputPad inputs outputs (λ e. cc) of_inputs of_outputs) in
      let across : All (λ key. All (Differ key) clusters) (inputs ++ outputs) =
      All-append (λ key. All (Differ key) clusters) inputs outputs (kinds_differ kind.InputPad kind.Cluster inputs clusters (λ e. cc) of_inputs of_clusters) (kinds_differ kind.OutputPad kind.Cluster outputs clusters (λ e. cc) of_outputs of_clusters) in
      subst (λ (keys : List BlockKey). AllPairs Differ keys) (sym parts) (pairs_append Differ (inputs ++ outputs) clusters pads (clusters_differ once) across)

  -- the block's number is that of an input, an output or a cluster
  abbrev IsThere : Block → Type 0
  IsThere (InputPad net) = net < length packed.circuit.nets
  IsThere (OutputPad net) = net < length packed.circuit.nets
  IsThere (Cluster cluster) = cluster < length packed.clusters

  blocks_there : All IsThere (blocks_of packed)
  blocks_there = grind (arith, All-append IsThere (map InputPad packed.circuit.inputs ++ map OutputPad packed.circuit.outputs) (map Cluster (range_with_len 0 (length packed.clusters))) (All-append IsThere (map InputPad packed.circuit.inputs) (map OutputPad packed.circuit.outputs) (All-map IsThere InputPad packed.circuit.inputs lawful.circuit.inputs) (All-map IsThere OutputPad packed.circuit.outputs lawful.circuit.outputs)) (All-map IsThere Cluster (range_with_len 0 (length packed.clusters)) (ranged packed.arch (bles_of packed.circuit) 0 (length packed.clusters) (length packed.clusters) (omega arith))))

  pub block_there : (number : ℕ) (block : Block) → slice_get (blocks_of packed) number ≡ Some block → IsThere block
  block_there number block is = subst IsThere (get_or_from_slice_get (blocks_of packed) number block block is) (blocks_there number block (slice_get_within (blocks_of packed) number block is))

-- the key of a block, by its number
pub key_at : (packed : PackedCircuit) (number : ℕ) (block : Block) → slice_get (blocks_of packed) number ≡ Some block → slice_get (keys_of packed) number ≡ Some (key_of packed block)
key_at packed number block is =
    let lt = slice_get_within (blocks_of packed) number block is in
    slice_get-get_or (keys_of packed) number (key_of packed block) (omega (arith, lt, length-map (blocks_of packed) (key_of packed)))
    ∙ ap (λ (key : BlockKey). let o : Option BlockKey = Some key in o) (get_or-map (key_of packed) (blocks_of packed) number block (key_of packed block) lt ∙ ap (key_of packed) (get_or_from_slice_get (blocks_of packed) number block block is))

-- the net that the seed of a cluster drives
pub seed_drives : (packed : PackedCircuit) (elements : List LogicElement) (cluster : ℕ) (members : List ℕ) (element : LogicElement) → elements ≡ bles_of packed.circuit → slice_get packed.clusters cluster ≡ Some members → slice_get elements (get_or members 0 0) ≡ Some element → element.output ≡ seed_net packed cluster
seed_drives packed elements cluster members element are found read = grind (arith, get_or_from_slice_get)
