-- The blocks of a packed circuit, kind by kind, and the nets between them.
use Rattle.cluster.proofs.Prelude.{◌≡◌, refl, sym, ap, subst, ◌∙◌, ℕ, suc, zero, ◌+◌, ◌<◌, Bool, true, false, not, ◌&&◌, cond, eqb, List, [], ◌∷◌, ◌++◌, All, None, length, get_or, map, filter, slice_index, arith, length-append, flat_map, range_with_len, enumerate_from, append_assoc, length-map, get_or-map, flat_map-append, All-head, All-tail, All-map, All-weaker, filter-append, fill_by_all, length-enumerate_from, get_or-enumerate_from, length-range_with_len, get_or-range_with_len, get_or-map-range_with_len, Block, InputPad, OutputPad, Cluster, NetUses, has, distinct_nets, NetsAmong, LogicElement, bles_of, element_at, elements_at, outputs_of, PackedCircuit, BlockNet, blocks_of, block_net, block_nets, is_global, leaves_block, nets_from, readers_of, reads_net, IsElementWithin, clusters_with, members_of, nets_read, pads_with, readers_by_net, cluster_nets, controls_of, driven_nets, input_nets, leaves_by, net_by, other_readers, IsPacked, has-distinct, has-with_nets}
use Rattle.cluster.proofs.ReaderLists.{flat_map-range_more}
use Rattle.cluster.proofs.FewBlocks.{elements_within}

-- numbering a list that has two parts
enumerate_from-append : {X : Type 0} (start : ℕ) (xs ys : List X) → enumerate_from start (xs ++ ys) ≡ enumerate_from start xs ++ enumerate_from (start + length xs) ys
enumerate_from-append start [] ys = ap (λ (n : ℕ). enumerate_from n ys) (omega arith)
enumerate_from-append {X} start (x ∷ xs) ys = grind (arith, enumerate_from-append (start + 1) xs ys)

flat_map-map : {X Y A : Type 0} (g : Y → List A) (f : X → Y) (xs : List X) → flat_map g (map f xs) ≡ flat_map (λ (x : X). g (f x)) xs
flat_map-map g f [] = refl
flat_map-map {X} {Y} {A} g f (x ∷ xs) = ap (λ (rest : List A). g (f x) ++ rest) (flat_map-map g f xs)

-- functions that agree below a bound
pub flat_map_same : {A : Type 0} (f g : ℕ → List A) (count : ℕ) → ((k : ℕ) → k < count → f k ≡ g k) → flat_map f (range_with_len 0 count) ≡ flat_map g (range_with_len 0 count)
flat_map_same f g zero same = refl
flat_map_same {A} f g (suc count) same =
    let one : suc count ≡ count + 1 = omega arith in
    let rest = flat_map_same f g count (λ k lt. same k (omega arith)) in
    let last = same count (omega arith) in
    subst (λ (n : ℕ). flat_map f (range_with_len 0 n) ≡ flat_map g (range_with_len 0 n)) (sym one) (flat_map-range_more f count ∙ ap (λ (front : List A). front ++ f count) rest ∙ ap (λ (end : List A). flat_map g (range_with_len 0 count) ++ end) last ∙ sym (flat_map-range_more g count))

-- a function that always returns the empty list
pub flat_map_none : {A : Type 0} (f : ℕ → List A) (count : ℕ) → ((k : ℕ) → f k ≡ []) → flat_map f (range_with_len 0 count) ≡ []
flat_map_none {A} f count none = flat_map_same f (λ k. []) count (λ k lt. none k) ∙ nothing (range_with_len 0 count)
  where
    nothing : (xs : List ℕ) → flat_map (λ (k : ℕ). let end : List A = [] in end) xs ≡ []
    nothing [] = refl
    nothing (x ∷ xs) = nothing xs

-- a numbered list, by index
by_place : {A : Type 0} (g : ℕ × Block → List A) (start count : ℕ) (blocks : List Block) (f : ℕ → ℕ × Block) → length blocks ≡ count → ((k : ℕ) → k < count → ◌≡◌ {A = ℕ × Block} (start + k, get_or blocks k (InputPad 0)) (f k)) → flat_map g (enumerate_from start blocks) ≡ flat_map (λ k. g (f k)) (range_with_len 0 count)
by_place g start count blocks f long same =
    let none : ℕ × Block = (0, InputPad 0) in
    ap (flat_map g) (fill_by_all f (enumerate_from start blocks) count none (length-enumerate_from start blocks ∙ long) (λ k lt. get_or-enumerate_from start blocks k none (omega arith) ∙ same k lt))
    ∙ flat_map-map g f (range_with_len 0 count)

-- the blocks, kind by kind
pub by_kind : {A : Type 0} (g : ℕ × Block → List A) (packed : PackedCircuit) → flat_map g (enumerate_from 0 (blocks_of packed)) ≡ flat_map (λ k. g (k, InputPad (slice_index packed.circuit.inputs k))) (range_with_len 0 (length packed.circuit.inputs)) ++ (flat_map (λ k. g (length packed.circuit.inputs + k, OutputPad (slice_index packed.circuit.outputs k))) (range_with_len 0 (length packed.circuit.outputs)) ++ flat_map (λ k. g (length packed.circuit.inputs + length packed.circuit.outputs + k, Cluster k)) (range_with_len 0 (length packed.clusters)))
by_kind {A} g packed =
    let inputs = packed.circuit.inputs in
    let outputs = packed.circuit.outputs in
    let count = length packed.clusters in
    let first = map InputPad inputs in
    let second = map OutputPad outputs in
    let third = map Cluster (range_with_len 0 count) in
    let pads : length (first ++ second) ≡ length inputs + length outputs = omega (arith, length-append first second, length-map inputs InputPad, length-map outputs OutputPad) in
    let in_parts : enumerate_from 0 (blocks_of packed) ≡ (enumerate_from 0 first ++ enumerate_from (length inputs) second) ++ enumerate_from (length inputs + length outputs) third = grind (arith, enumerate_from-append, length-map) in
    let first_is = by_place g 0 (length inputs) first (λ k. (k, InputPad (slice_index inputs k))) (length-map inputs InputPad) (λ k lt. ap (λ (n : ℕ). let b : ℕ × Block = (n, get_or first k (InputPad 0)) in b) (omega arith) ∙ ap (λ (block : Block). let b : ℕ × Block = (k, block) in b) (get_or-map InputPad inputs k 0 (InputPad 0) lt)) in
    let second_is = by_place g (length inputs) (length outputs) second (λ k. (length inputs + k, OutputPad (slice_index outputs k))) (length-map outputs OutputPad) (λ k lt. ap (λ (block : Block). let b : ℕ × Block = (length inputs + k, block) in b) (get_or-map OutputPad outputs k 0 (InputPad 0) lt)) in
    let third_is = by_place g (length inputs + length outputs) count third (λ k. (length inputs + length outputs + k, Cluster k)) (length-map (range_with_len 0 count) Cluster ∙ length-range_with_len 0 count) (λ k lt. ap (λ (block : Block). let b : ℕ × Block = (length inputs + length outputs + k, block) in b) (get_or-map Cluster (range_with_len 0 count) k 0 (InputPad 0) (omega (arith, length-range_with_len 0 count)) ∙ ap Cluster (get_or-range_with_len 0 count k 0 lt ∙ omega arith))) in
    grind (arith, flat_map-append, append_assoc)

-- the numbers of the blocks that pass
numbers_passing : (test : ℕ × Block → Bool) (blocks : List (ℕ × Block)) → map (λ (block : ℕ × Block). block.0) (filter test blocks) ≡ flat_map (λ (block : ℕ × Block). cond (test block) (block.0 ∷ []) []) blocks
numbers_passing test [] = refl
numbers_passing test (block ∷ blocks) = grind (arith, numbers_passing test blocks)

-- a filter moves into a `flat_map`
filter-flat_map : (test : ℕ → Bool) (f : ℕ → List ℕ) (xs : List ℕ) → filter test (flat_map f xs) ≡ flat_map (λ (x : ℕ). filter test (f x)) xs
filter-flat_map test f [] = refl
filter-flat_map test f (x ∷ xs) = filter-append test (f x) (flat_map f xs) ∙ ap (λ (rest : List ℕ). filter test (f x) ++ rest) (filter-flat_map test f xs)

-- a number that passes two tests
both_tests : (test : ℕ → Bool) (a b : Bool) (number : ℕ) → test number ≡ a → cond (a && b) (number ∷ []) [] ≡ filter test (cond b (number ∷ []) [])
both_tests test a b number is = grind arith

and_false : (b : Bool) → (b && false) ≡ false
and_false b = grind arith

-- the readers of a net, gathered from the pads and the clusters
pub readers_gathered : (packed : PackedCircuit) (driver net : ℕ) → readers_of packed driver net ≡ other_readers driver (pads_with packed.circuit net (length packed.circuit.outputs) ++ clusters_with packed.circuit (bles_of packed.circuit) packed.clusters net (length packed.clusters))
readers_gathered packed driver net =
    let circuit = packed.circuit in
    let elements = bles_of circuit in
    let other : ℕ → Bool = λ reader. not (eqb reader driver) in
    let test : ℕ × Block → Bool = λ block. not (eqb block.0 driver) && reads_net packed net block.1 in
    let g : ℕ × Block → List ℕ = λ block. cond (test block) (block.0 ∷ []) [] in
    let pads : ℕ → List ℕ = λ pad. cond (eqb (slice_index circuit.outputs pad) net) ((length circuit.inputs + pad) ∷ []) [] in
    let read : ℕ → List ℕ = λ cluster. cond (has (nets_read (members_of elements packed.clusters cluster)) net) ((length circuit.inputs + length circuit.outputs + cluster) ∷ []) [] in
    let no_inputs = flat_map_none (λ k. g (k, InputPad (slice_index circuit.inputs k))) (length circuit.inputs) (λ k. ap (λ (t : Bool). cond t (k ∷ []) []) (and_false (other k))) in
    let outputs = flat_map_same (λ k. g (length circuit.inputs + k, OutputPad (slice_index circuit.outputs k))) (λ k. filter other (pads k)) (length circuit.outputs) (λ k lt. both_tests other (other (length circuit.inputs + k)) (eqb (slice_index circuit.outputs k) net) (length circuit.inputs + k) refl) in
    let clusters = flat_map_same (λ k. g (length circuit.inputs + length circuit.outputs + k, Cluster k)) (λ k. filter other (read k)) (length packed.clusters) (λ k lt.
    grind (arith, has-with_nets)) in
    grind (arith, numbers_passing, by_kind, filter-flat_map, filter-append)

-- facts about the uses of the nets of a packed circuit
pub record AreUsesOf (packed : PackedCircuit) (uses : NetUses) : Type 0 where
  pub globals : uses.globals ≡ record { count = length packed.circuit.nets; nets = distinct_nets (controls_of packed.circuit.latches) }
  pub readers : uses.readers ≡ readers_by_net packed.circuit (bles_of packed.circuit) packed.clusters

-- the readers, from the uses
readers_by : (packed : PackedCircuit) (uses : NetUses) (driver net : ℕ) → AreUsesOf packed uses → net < length packed.circuit.nets → other_readers driver (get_or uses.readers net []) ≡ readers_of packed driver net
readers_by packed uses driver net are within = grind (arith, get_or-map-range_with_len, readers_gathered)

-- whether a net is global, from the uses
pub global_by : (packed : PackedCircuit) (uses : NetUses) (net : ℕ) → AreUsesOf packed uses → has uses.globals.nets net ≡ is_global packed.circuit net
global_by packed uses net are = ap (λ (set : NetsAmong). has set.nets net) are.globals ∙ has-distinct (controls_of packed.circuit.latches) net

-- a net, from the uses
pub net_by_uses : (packed : PackedCircuit) (uses : NetUses) (driver net : ℕ) → AreUsesOf packed uses → net < length packed.circuit.nets → net_by uses driver net ≡ block_net packed driver net
net_by_uses packed uses driver net are within = grind (arith, readers_by, global_by)

-- whether a net leaves its block, from the uses
pub leaves_by_uses : (packed : PackedCircuit) (uses : NetUses) (driver net : ℕ) → AreUsesOf packed uses → net < length packed.circuit.nets → leaves_by uses driver net ≡ leaves_block packed driver net
leaves_by_uses packed uses driver net are within = grind (arith, readers_by, global_by)

-- the nets that a block drives, from the uses
driven_by : (packed : PackedCircuit) (uses : NetUses) (driver : ℕ) (outputs : List ℕ) → AreUsesOf packed uses → All (λ net. net < length packed.circuit.nets) outputs → map (block_net packed driver) (filter (leaves_block packed driver) outputs) ≡ map (net_by uses driver) (filter (leaves_by uses driver) outputs)
driven_by packed uses driver [] are within = refl
driven_by packed uses driver (net ∷ outputs) are within =
    let P : ℕ → Type 0 = λ net. net < length packed.circuit.nets in
    let here : net < length packed.circuit.nets = All-head P net outputs within in
    by (leaves_block packed driver net) (leaves_by uses driver net) (sym (leaves_by_uses packed uses driver net are here)) (sym (net_by_uses packed uses driver net are here)) (driven_by packed uses driver outputs are (All-tail P net outputs within))
  where
    by : (a b : Bool) → a ≡ b → block_net packed driver net ≡ net_by uses driver net → map (block_net packed driver) (filter (leaves_block packed driver) outputs) ≡ map (net_by uses driver) (filter (leaves_by uses driver) outputs) → map (block_net packed driver) (cond a (net ∷ filter (leaves_block packed driver) outputs) (filter (leaves_block packed driver) outputs)) ≡ map (net_by uses driver) (cond b (net ∷ filter (leaves_by uses driver) outputs) (filter (leaves_by uses driver) outputs))
    by true true same head rest = cc (head, rest)
    by true false same head rest = absurd cc
    by false true same head rest = absurd cc
    by false false same head rest = rest

-- the nets that the members of a cluster drive
pub outputs_within : (elements : List LogicElement) (members : List ℕ) (count : ℕ) → All (IsElementWithin count) elements → All (λ number. number < length elements) members → All (λ net. net < count) (outputs_of (elements_at elements members))
outputs_within elements members count within are =
    let none : LogicElement = record { inputs = []; output = 0; clock = None } in
    All-map (λ net. net < count) (λ (element : LogicElement). element.output) (elements_at elements members)
    (All-map (λ (element : LogicElement). element.output < count) (element_at elements) members (All-weaker (λ number. number < length elements) (λ number. (element_at elements number).output < count) (λ number lt. (within number none lt).output) members are))

-- the nets between blocks, from the uses
pub nets_by_uses : (packed : PackedCircuit) (uses : NetUses) → IsPacked packed → AreUsesOf packed uses → input_nets packed.circuit uses (length packed.circuit.inputs) ++ cluster_nets packed.circuit uses (bles_of packed.circuit) packed.clusters (length packed.clusters) ≡ block_nets packed
nets_by_uses packed uses lawful are =
    let circuit = packed.circuit in
    let elements = bles_of circuit in
    let g : ℕ × Block → List BlockNet = λ block. map (block_net packed block.0) (nets_from packed block.0 block.1) in
    let pads : ℕ → List BlockNet = λ pad. net_by uses pad (slice_index circuit.inputs pad) ∷ [] in
    let driven : ℕ → List BlockNet = λ cluster. driven_nets uses (length circuit.inputs + length circuit.outputs + cluster) (members_of elements packed.clusters cluster) in
    let inputs = flat_map_same (λ k. g (k, InputPad (slice_index circuit.inputs k))) pads (length circuit.inputs) (λ k lt. ap (λ (net : BlockNet). net ∷ []) (sym (net_by_uses packed uses k (slice_index circuit.inputs k) are (lawful.circuit.inputs k 0 lt)))) in
    let no_outputs = flat_map_none (λ k. g (length circuit.inputs + k, OutputPad (slice_index circuit.outputs k))) (length circuit.outputs) (λ k. refl) in
    let clusters = flat_map_same (λ k. g (length circuit.inputs + length circuit.outputs + k, Cluster k)) driven (length packed.clusters) (λ k lt. driven_by packed uses (length circuit.inputs + length circuit.outputs + k) (outputs_of (members_of elements packed.clusters k)) are (outputs_within elements (get_or packed.clusters k []) (length circuit.nets) (elements_within circuit lawful.circuit) (lawful.members k [] lt))) in
    grind (arith, by_kind)
