-- The BLEs and pins of a cluster, by index.
use Rattle.vpr_files.proofs.Prelude.{◌≡◌, ◌==◌, ℕ, Bool, false, ◌<◌, ◌++◌, List, [], ◌∷◌, map, length, Option, Some, sym, ap, ◌∙◌, slice_get, get_or, subst, All, arith, All-append, All-from_get_or, All-get_or, All-map, Circuit, IsPacked, ⊤, enumerate_from, range_with_len, zip, slice_get-map, get_or_from_slice_get, slice_get-get_or, slice_get_within, option_eq, option_map_or, length-map, get_or-zip, length-zip, get_or-range_with_len, length-enumerate_from, length-range_with_len, eqb, sameb, the_type, Pin, PinClass, LogicElement, bles_of, element_at, PackedCircuit, outputs_of, block_name, blocks_of, elements_in, is_same_class, net_name, pins_of, seed_name, Block, InputPad, OutputPad, Cluster, HasCluster}

-- a BLE, from its parts
abbrev pub element : List ℕ → ℕ → Option ℕ → LogicElement
element inputs output clock = record { inputs = inputs; output = output; clock = clock }

-- the BLE with this number
pub element_is : (bles : List LogicElement) (number : ℕ) (element : LogicElement) → slice_get bles number ≡ Some element → element_at bles number ≡ element
element_is bles number element e = get_or_from_slice_get bles number element _ e

-- the BLEs of a cluster with these members
pub elements_are : (packed : PackedCircuit) (cluster : ℕ) (members : List ℕ) → slice_get packed.clusters cluster ≡ Some members → elements_in packed cluster ≡ map (element_at (bles_of packed.circuit)) members
elements_are packed cluster members e = ap (map (element_at (bles_of packed.circuit))) (get_or_from_slice_get packed.clusters cluster members [] e)

-- the BLE at an index
pub element_in_at : (packed : PackedCircuit) (cluster : ℕ) (members : List ℕ) (place number : ℕ) → slice_get packed.clusters cluster ≡ Some members → slice_get members place ≡ Some number
    → slice_get (elements_in packed cluster) place ≡ Some (element_at (bles_of packed.circuit) number)
element_in_at packed cluster members place number e at = grind (arith, slice_get-map, elements_are packed cluster members e, slice_get-map (element_at (bles_of packed.circuit)) members place)

-- the output of the BLE at an index
pub output_at : (packed : PackedCircuit) (cluster : ℕ) (members : List ℕ) (place number : ℕ) (element : LogicElement) → slice_get packed.clusters cluster ≡ Some members → slice_get members place ≡ Some number → slice_get (bles_of packed.circuit) number ≡ Some element
    → slice_get (outputs_of (elements_in packed cluster)) place ≡ Some element.output
output_at packed cluster members place number element e at is = grind (arith, slice_get-map, element_in_at, element_is)

-- a cluster has as many BLEs as members
pub element_count : (packed : PackedCircuit) (cluster : ℕ) (members : List ℕ) → slice_get packed.clusters cluster ≡ Some members → length (elements_in packed cluster) ≡ length members
element_count packed cluster members e = ap length (elements_are packed cluster members e) ∙ length-map members _

pub output_count : (packed : PackedCircuit) (cluster : ℕ) (members : List ℕ) → slice_get packed.clusters cluster ≡ Some members → length (outputs_of (elements_in packed cluster)) ≡ length members
output_count packed cluster members e = length-map (elements_in packed cluster) _ ∙ element_count packed cluster members e

-- there is an entry for each pin
pub pin_count : (packed : PackedCircuit) (cluster : ℕ) → length (pins_of packed cluster) ≡ length packed.arch.pins
pin_count packed cluster = length-map (enumerate_from 0 packed.arch.pins) _ ∙ length-enumerate_from 0 packed.arch.pins

-- the pair at an index of two zipped lists
both_at : {A B : Type 0} (ks : List A) (vs : List B) (i : ℕ) (k : A) (v : B) → slice_get ks i ≡ Some k → slice_get vs i ≡ Some v → slice_get (zip ks vs) i ≡ Some (k, v)
both_at ks vs i k v e f =
    let within_ks = slice_get_within ks i k e in
    let within_vs = slice_get_within vs i v f in
    let within : i < length (zip ks vs) = omega (arith, length-zip ks vs) in
    slice_get-get_or (zip ks vs) i (k, v) within
    ∙ ap Some (get_or-zip ks vs i (k, v) within_ks within_vs)
    ∙ ap (λ one. Some (one, get_or vs i v)) (get_or_from_slice_get ks i k k e)
    ∙ ap (λ one. Some (k, one)) (get_or_from_slice_get vs i v v f)

-- a pin and the net on it
pub pin_at : (packed : PackedCircuit) (cluster number : ℕ) (pin : Pin) (carried : Option ℕ) → slice_get packed.arch.pins number ≡ Some pin → slice_get (pins_of packed cluster) number ≡ Some carried
    → slice_get (zip packed.arch.pins (pins_of packed cluster)) number ≡ Some (pin, carried)
pin_at packed cluster number pin carried e f = both_at packed.arch.pins (pins_of packed cluster) number pin carried e f

pub zip_count : (packed : PackedCircuit) (cluster : ℕ) → length (zip packed.arch.pins (pins_of packed cluster)) ≡ length packed.arch.pins
zip_count packed cluster = let count = pin_count packed cluster in omega (arith, length-zip packed.arch.pins (pins_of packed cluster))

-- the comparison of two classes, and of the net on a pin with another net
pub class_is : (a b : PinClass) → sameb the_type a b ≡ is_same_class b a
class_is a b = grind arith

-- a pin carries the net
abbrev pub is_on : ℕ → Option ℕ → Bool
is_on net carried = option_map_or (λ it. it == net) carried false

pub carried_is : (carried : Option ℕ) (net : ℕ) → option_eq eqb carried (Some net) ≡ is_on net carried
carried_is carried net = grind arith

-- an element at an index has a property that all have
pub all_at : {X : Type 0} (P : X → Type 0) (xs : List X) (i : ℕ) (x : X) → slice_get xs i ≡ Some x → All P xs → P x
all_at P xs i x e all = subst P (get_or_from_slice_get xs i x x e) (All-get_or P xs i x (slice_get_within xs i x e) all)

-- the members of a cluster are BLEs
pub member_is_ble : (packed : PackedCircuit) (cluster : ℕ) (members : List ℕ) (place number : ℕ) → IsPacked packed → slice_get packed.clusters cluster ≡ Some members → slice_get members place ≡ Some number → number < length (bles_of packed.circuit)
member_is_ble packed cluster members place number lawful e at =
    all_at (λ one. one < length (bles_of packed.circuit)) members place number at
    (all_at (All (λ one. one < length (bles_of packed.circuit))) packed.clusters cluster members e lawful.members)

-- the blocks that are clusters are those of the packing
pub block_is_there : (packed : PackedCircuit) (number : ℕ) (block : Block) → slice_get (blocks_of packed) number ≡ Some block → HasCluster packed block
block_is_there packed number block e = all_at (HasCluster packed) (blocks_of packed) number block e all
  where
    none : (nets : List ℕ) → All (λ (net : ℕ). ⊤) nets
    none nets = All-from_get_or (λ (net : ℕ). ⊤) nets 0 (λ i within. tt)

    few : (count : ℕ) → All (λ cluster. cluster < count) (range_with_len 0 count)
    few count = All-from_get_or (λ cluster. cluster < count) (range_with_len 0 count) 0
        (λ i within. let long = length-range_with_len 0 count in let here : i < count = omega arith in let is = get_or-range_with_len 0 count i 0 here in omega arith)

    all : All (HasCluster packed) (blocks_of packed)
    all =
        All-append (HasCluster packed) (map InputPad packed.circuit.inputs ++ map OutputPad packed.circuit.outputs) (map Cluster (range_with_len 0 (length packed.clusters)))
        (All-append (HasCluster packed) (map InputPad packed.circuit.inputs) (map OutputPad packed.circuit.outputs)
        (All-map (HasCluster packed) InputPad packed.circuit.inputs (none packed.circuit.inputs))
        (All-map (HasCluster packed) OutputPad packed.circuit.outputs (none packed.circuit.outputs)))
        (All-map (HasCluster packed) Cluster (range_with_len 0 (length packed.clusters)) (few (length packed.clusters)))

-- the name of a cluster with these members
pub seed_is : (packed : PackedCircuit) (cluster : ℕ) (members : List ℕ) (seed : ℕ) (element : LogicElement) → slice_get packed.clusters cluster ≡ Some members → slice_get members 0 ≡ Some seed → slice_get (bles_of packed.circuit) seed ≡ Some element
    → net_name packed.circuit element.output ≡ block_name packed (Cluster cluster)
seed_is packed cluster members seed element e first is = ap (net_name packed.circuit) (sym (ap (λ (one : LogicElement). one.output) (element_is (bles_of packed.circuit) seed element is))) ∙ named members seed e first
  where
    named : (members : List ℕ) (seed : ℕ) → slice_get packed.clusters cluster ≡ Some members → slice_get members 0 ≡ Some seed → net_name packed.circuit (element_at (bles_of packed.circuit) seed).output ≡ block_name packed (Cluster cluster)
    named [] seed e first = cc
    named (one ∷ others) seed e first =
        ap (λ number. net_name packed.circuit (element_at (bles_of packed.circuit) number).output) (sym (let same : one ≡ seed = cc in same))
        ∙ sym (ap (seed_name packed.circuit) (elements_are packed cluster (one ∷ others) e))

pub no_seed : (packed : PackedCircuit) (cluster : ℕ) (members : List ℕ) → slice_get packed.clusters cluster ≡ Some members → members ≡ [] → [] ≡ block_name packed (Cluster cluster)
no_seed packed cluster members e none = grind (arith, elements_are packed cluster members e)

-- a text for a circuit that is known by an equation
pub by_circuit : (f : Circuit → List ℕ) (text : List ℕ) (found circuit : Circuit) → text ≡ f found → found ≡ circuit → text ≡ f circuit
by_circuit f text found circuit e is = e ∙ ap f is
