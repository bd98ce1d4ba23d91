-- The nets between blocks: their drivers and readers, and their number.
use Rattle.cluster.proofs.Prelude.{◌≡◌, ◌≢◌, ℕ, suc, zero, ◌+◌, ◌<◌, ◌≤◌, Bool, true, false, not, ◌&&◌, ◌==◌, cond, List, [], ◌∷◌, ◌++◌, All, filter, length, get_or, map, refl, ap, arith, length-append, AllPairs, Contains, concat, enumerate_from, flat_map, range_with_len, option_to_list, length-map, All-nil, All-cons, All-head, All-tail, All-append, All-contains, All-filter, All-map, All-weaker, AllPairs-cons, length-filter, count_by-le-length, eqb-true, nat_tests, Block, InputPad, OutputPad, Cluster, IsOnce, has, bles_of, outputs_of, PackedCircuit, BlockNet, block_net, block_nets, blocks_of, elements_in, leaves_block, nets_from, reads_net, IsPacked, IsBlockNet}
use Rattle.cluster.proofs.BlockLists.{by_kind, flat_map_none, outputs_within}
use Rattle.cluster.proofs.FewBlocks.{elements_within}
use Rattle.cluster.proofs.Members.{ranged}

-- each number is among the numbers
has_itself : (numbers : List ℕ) → All (λ number. has numbers number ≡ true) numbers
has_itself [] = All-nil (λ number. has [] number ≡ true)
has_itself (number ∷ numbers) = All-cons (λ other. has (number ∷ numbers) other ≡ true) number numbers (grind (arith, nat_tests)) (All-weaker (λ other. has numbers other ≡ true) (λ other. has (number ∷ numbers) other ≡ true) (λ other h. grind (arith, h)) numbers (has_itself numbers))

-- a number that the test finds is in the list
pub contained : (numbers : List ℕ) (number : ℕ) → has numbers number ≡ true → Contains numbers number
contained [] number h = absurd cc
contained (first ∷ numbers) number h = by (first == number) refl (contained numbers number)
  where
    by : (b : Bool) → (first == number) ≡ b → (has numbers number ≡ true → Contains numbers number) → Contains (first ∷ numbers) number
    by true same rest = (0, omega arith, eqb-true first number same)
    by false other rest = let r = rest (grind (arith, h, other)) in (suc r.0, omega (arith, r.1), r.2)

-- a number in the list is found by the test
found : (numbers : List ℕ) (number : ℕ) → Contains numbers number → has numbers number ≡ true
found numbers number in' = All-contains (λ number. has numbers number ≡ true) numbers number (has_itself numbers) in'

-- without repeats no two numbers are equal
unlike : (number : ℕ) (numbers : List ℕ) → has numbers number ≡ false → All (λ other. number ≢ other) numbers
unlike number [] h = All-nil (λ other. number ≢ other)
unlike number (other ∷ numbers) h = All-cons (λ other. number ≢ other) other numbers (λ same. absurd (grind (arith, nat_tests, h, same))) (unlike number numbers (grind (arith, h)))

pub apart : (numbers : List ℕ) → IsOnce numbers → AllPairs (λ number other. number ≢ other) numbers
apart [] once = λ i j d before small. absurd (omega (arith, small))
apart (number ∷ numbers) once = AllPairs-cons (λ number other. number ≢ other) number numbers (unlike number numbers once.0) (apart numbers once.1)

-- the numbers of the elements that pass a test
abbrev passing : {X : Type 0} → (ℕ × X → Bool) → ℕ → List X → List ℕ
passing test start xs = map (λ x. x.0) (filter test (enumerate_from start xs))

passing_all : {X : Type 0} (test : ℕ × X → Bool) (P : ℕ → Type 0) (start : ℕ) (xs : List X) → ((k : ℕ) (x : X) → start ≤ k → k < start + length xs → test (k, x) ≡ true → P k) → All P (passing test start xs)
passing_all test P start [] holds = All-nil P
passing_all test P start (x ∷ xs) holds = by (test (start, x)) refl (passing_all test P (start + 1) xs (λ k y low high passes. holds k y (omega (arith, low)) (omega (arith, high)) passes))
  where
    by : (b : Bool) → test (start, x) ≡ b → All P (passing test (start + 1) xs) → All P (map (λ y. y.0) (cond b ((start, x) ∷ filter test (enumerate_from (start + 1) xs)) (filter test (enumerate_from (start + 1) xs))))
    by true passes rest = All-cons P start (passing test (start + 1) xs) (holds start x (omega arith) (omega arith) passes) rest
    by false fails rest = rest

passing_rise : {X : Type 0} (test : ℕ × X → Bool) (start : ℕ) (xs : List X) → AllPairs (λ a b. a < b) (passing test start xs)
passing_rise test start [] = λ i j d before small. absurd (omega (arith, small))
passing_rise test start (x ∷ xs) = by (test (start, x)) (passing_rise test (start + 1) xs)
  where
    by : (b : Bool) → AllPairs (λ a b. a < b) (passing test (start + 1) xs) → AllPairs (λ a b. a < b) (map (λ y. y.0) (cond b ((start, x) ∷ filter test (enumerate_from (start + 1) xs)) (filter test (enumerate_from (start + 1) xs))))
    by true rest = AllPairs-cons (λ a b. a < b) start (passing test (start + 1) xs) (passing_all test (λ k. start < k) (start + 1) xs (λ k y low high passes. omega (arith, low))) rest
    by false rest = rest

-- one net is lawful
net_lawful : (packed : PackedCircuit) (driver net : ℕ) → driver < length (blocks_of packed) → net < length packed.circuit.nets → IsBlockNet packed (block_net packed driver net)
net_lawful packed driver net small within =
    let blocks = blocks_of packed in
    let test : ℕ × Block → Bool = λ block. not (block.0 == driver) && reads_net packed net block.1 in
    record {
      named = within;
      driver = small;
      readers = passing_all test (λ reader. reader < length blocks) 0 blocks (λ k block low high passes. omega (arith, high));
      rise = passing_rise test 0 blocks;
      others = passing_all test (λ reader. reader ≢ driver) 0 blocks (λ k block low high passes same. apart_from k (reads_net packed net block) same passes);
      controls = (λ is. contained (flat_map (λ latch. option_to_list latch.control) packed.circuit.latches) net is, λ is. found (flat_map (λ latch. option_to_list latch.control) packed.circuit.latches) net is);
    }
  where
    apart_from : (k : ℕ) (reads : Bool) → k ≡ driver → (not (k == driver) && reads) ≡ true → ⊥
    apart_from k reads same passes = grind (arith, nat_tests, same, passes)

-- each block drives nets of the circuit
abbrev DrivesNets : PackedCircuit → Block → Type 0
DrivesNets packed block = (driver : ℕ) → All (λ net. net < length packed.circuit.nets) (nets_from packed driver block)

drive_nets : (packed : PackedCircuit) → IsPacked packed → All (DrivesNets packed) (blocks_of packed)
drive_nets packed lawful =
    let P : ℕ → Type 0 = λ net. net < length packed.circuit.nets in
    let Q : Block → Type 0 = DrivesNets packed in
    let circuit = packed.circuit in
    let bles = bles_of circuit in
    let clusters = range_with_len 0 (length packed.clusters) in
    All-append Q (map InputPad circuit.inputs ++ map OutputPad circuit.outputs) (map Cluster clusters)
    (All-append Q (map InputPad circuit.inputs) (map OutputPad circuit.outputs)
    (All-map Q InputPad circuit.inputs (All-weaker P (λ net. Q (InputPad net)) (λ net small driver. All-cons P net [] small (All-nil P)) circuit.inputs lawful.circuit.inputs))
    (All-map Q OutputPad circuit.outputs (All-weaker P (λ net. Q (OutputPad net)) (λ net small driver. All-nil P) circuit.outputs lawful.circuit.outputs)))
    (All-map Q Cluster clusters (All-weaker (λ cluster. cluster < length packed.clusters) (λ cluster. Q (Cluster cluster)) (λ cluster small driver.
    All-filter (leaves_block packed driver) P (outputs_of (elements_in packed cluster)) (outputs_within bles (get_or packed.clusters cluster []) (length circuit.nets) (elements_within circuit lawful.circuit) (lawful.members cluster [] small)))
    clusters (ranged packed.arch bles 0 (length packed.clusters) (length packed.clusters) (omega arith))))

-- each of the blocks numbered from `start` drives lawful nets
nets_on : (packed : PackedCircuit) (start : ℕ) (blocks : List Block) → start + length blocks ≤ length (blocks_of packed) → All (DrivesNets packed) blocks → All (IsBlockNet packed) (flat_map (λ block. map (block_net packed block.0) (nets_from packed block.0 block.1)) (enumerate_from start blocks))
nets_on packed start [] few drive = All-nil (IsBlockNet packed)
nets_on packed start (block ∷ blocks) few drive =
    let P : BlockNet → Type 0 = IsBlockNet packed in
    let small : start < length (blocks_of packed) = omega (arith, few) in
    let here = All-head (DrivesNets packed) block blocks drive start in
    All-append P (map (block_net packed start) (nets_from packed start block)) _
    (All-map P (block_net packed start) (nets_from packed start block) (All-weaker (λ net. net < length packed.circuit.nets) (λ net. P (block_net packed start net)) (λ net within. net_lawful packed start net small within) (nets_from packed start block) here))
    (nets_on packed (start + 1) blocks (omega (arith, few)) (All-tail (DrivesNets packed) block blocks drive))

-- all nets between blocks are lawful
pub nets_lawful : (packed : PackedCircuit) → IsPacked packed → All (IsBlockNet packed) (block_nets packed)
nets_lawful packed lawful = nets_on packed 0 (blocks_of packed) (omega arith) (drive_nets packed lawful)

-- the elements of a `flat_map` are at most those of lists that are as long
no_longer : {A : Type 0} (f : ℕ → List A) (start : ℕ) (lists : List (List ℕ)) → ((k : ℕ) → k < length lists → length (f (start + k)) ≤ length (get_or lists k [])) → length (flat_map f (range_with_len start (length lists))) ≤ length (concat lists)
no_longer f start [] short = omega arith
no_longer {A} f start (list ∷ lists) short =
    let first = ap (λ (k : ℕ). length (f k)) (sum start) in
    let here : length (f (start + 0)) ≤ length list = short 0 (omega arith) in
    let rest = no_longer f (start + 1) lists (λ k small. (let next = ap (λ (k : ℕ). length (f k)) (shift start k) in let s = short (suc k) (omega (arith, small)) in omega (arith, next, s))) in
    omega (arith, first, here, rest, length-append (f start) (flat_map f (range_with_len (start + 1) (length lists))), length-append list (concat lists))
  where
    sum : (n : ℕ) → n + 0 ≡ n
    sum n = omega arith

    shift : (n k : ℕ) → n + 1 + k ≡ n + suc k
    shift n k = omega arith

-- a `flat_map` with one element for each number
one_each : {A : Type 0} (f : ℕ → List A) (start count : ℕ) → ((k : ℕ) → length (f k) ≡ 1) → length (flat_map f (range_with_len start count)) ≡ count
one_each f start zero one = refl
one_each f start (suc count) one = omega (arith, one start, one_each f (start + 1) count one, length-append (f start) (flat_map f (range_with_len (start + 1) count)))

-- there are at most as many nets as input pads and members of clusters
pub few_nets : (packed : PackedCircuit) → length (block_nets packed) ≤ length packed.circuit.inputs + length (concat packed.clusters)
few_nets packed = grind (arith, by_kind, one_each, flat_map_none, no_longer, length-append, length-map, length-filter, count_by-le-length)
