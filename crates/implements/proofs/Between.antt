-- Between blocks: at a block of the layout of results just those nets are wanted that the packing
-- says it reads, and no node is in more trees than it carries.
use Rattle.implements.proofs.Prelude.{get_or, ◌≡◌, ℕ, ◌+◌, ◌-◌, ◌≤◌, Bool, true, false, ◌||◌, List, [], ◌∷◌, ◌++◌, cond, length, map, take, Some, slice_get, sym, ap, refl, ◌∙◌, arith, append_assoc, length-append, count_by, AllZip, enumerate_from, list_any, range_with_len, nat_tests, get_or-append_right, sum_by-cons, slice_get-map, Arch, Pin as ArchPin, PinClass, Input, Clock, has, clocks_of, outside_inputs, PackedCircuit, BlockNet, block_nets, net_on_pin, elements_in, is_same_class, pins_of, reads_net, IsPacked, IsLawfulPacking, Block, InputPad, OutputPad, Cluster, Strip, Place, IsLegal, IsRouted, path_nodes, is_same_node, net_sinks, net_source, capacity_of, Node, HasCluster, has_on, is_net, wants, laid_block, laid_net, layout_of, LaidBlock, LaidNet, on_pin}
use Rattle.implements.proofs.Results.{laid_cluster}
use Rattle.implements.proofs.Coming.{has_pin}
use Rattle.implements.proofs.Inside.{at_member, enumerated, is_some_net, pin_is, pin_there, same_class}
use Rattle.implements.proofs.Members.{from_any, from_get, from_has, to_has}

pub same_truth : (a b : Bool) → (a ≡ true → b ≡ true) → (b ≡ true → a ≡ true) → a ≡ b
same_truth a b f g = grind arith

-- a pin that has a net
on_parts : (arch : Arch) (laid : LaidBlock) (class : PinClass) (pin net : ℕ) → on_pin arch laid class pin ≡ Some net →
    (p : ArchPin) × (slice_get arch.pins pin ≡ Some p) × (is_same_class class p.class ≡ true) × (slice_get laid.pins pin ≡ Some (Some net))
on_parts arch laid class pin net h = grind arith

module _ (packed : PackedCircuit) (cluster : ℕ) (place : Place) where
  -- what a pin carries
  pin_carries : (k : ℕ) (pin : ArchPin) → slice_get packed.arch.pins k ≡ Some pin → slice_get (pins_of packed cluster) k ≡ Some (net_on_pin packed cluster pin.class (count_by (λ (other : ArchPin). is_same_class pin.class other.class) (take k packed.arch.pins)))
  pin_carries k pin at = grind (arith, slice_get-map, enumerated)

  -- the pins of a class have just the nets that are carried by rank
  has_just : (class : PinClass) (nets : List ℕ) → ((r : ℕ) → net_on_pin packed cluster class r ≡ slice_get nets r) → length nets ≤ count_by (λ (pin : ArchPin). is_same_class class pin.class) packed.arch.pins → (net : ℕ) →
      has_on packed.arch (laid_cluster packed cluster place) class net ≡ has nets net
  has_just class nets by_rank few net = same_truth (has_on packed.arch laid class net) (has nets net) there back
    where
      laid : LaidBlock
      laid = laid_cluster packed cluster place

      there : has_on packed.arch (laid_cluster packed cluster place) class net ≡ true → has nets net ≡ true
      there h =
          let q = from_any (λ pin. is_net net (on_pin packed.arch (laid_cluster packed cluster place) class pin)) (range_with_len 0 (length packed.arch.pins)) h in
          let parts = on_parts packed.arch (laid_cluster packed cluster place) class q.0 net (is_some_net (on_pin packed.arch (laid_cluster packed cluster place) class q.0) net q.2) in
          let rank = count_by (λ (other : ArchPin). is_same_class parts.0.class other.class) (take q.0 packed.arch.pins) in
          let is : Some (net_on_pin packed cluster parts.0.class rank) ≡ Some (Some net) = sym (pin_carries q.0 parts.0 parts.1) ∙ parts.3 in
          let carries : net_on_pin packed cluster parts.0.class rank ≡ Some net = cc in
          let found : slice_get nets rank ≡ Some net = sym (by_rank rank) ∙ ap (λ (c : PinClass). net_on_pin packed cluster c rank) (sym (same_class class parts.0.class parts.2)) ∙ carries in
          to_has nets net (from_get nets rank net found).1

      back : has nets net ≡ true → has_on packed.arch (laid_cluster packed cluster place) class net ≡ true
      back h =
          let at = at_member nets net (from_has nets net h) in
          let q = pin_there packed cluster place class at.0 net (by_rank at.0 ∙ at.2) (omega (arith, at.1, few)) in
          has_pin packed.arch (laid_cluster packed cluster place) class q.0 net (pin_is packed cluster place class net q.0 q.1)

-- at each block just the nets are wanted that it reads
pub wanted_as_read : (packed : PackedCircuit) → IsPacked packed → IsLawfulPacking packed → (net : ℕ) (block : Block) (place : Place) → HasCluster packed block → wants packed.arch net (laid_block packed block place) ≡ reads_net packed net block
wanted_as_read packed lawful laws net (InputPad input) place small = refl
wanted_as_read packed lawful laws net (OutputPad output) place small = refl
wanted_as_read packed lawful laws net (Cluster cluster) place small =
    let elements = elements_in packed cluster in
    let fits = laws.fit cluster [] small in
    let few_inputs : length (outside_inputs elements) ≤ count_by (λ (pin : ArchPin). is_same_class Input pin.class) packed.arch.pins = grind (arith, nat_tests, fits) in
    let clocks : length (clocks_of elements) ≤ 1 = grind (arith, nat_tests, fits) in
    let one = lawful.arch.clocks in
    let few_clocks : length (clocks_of elements) ≤ count_by (λ (pin : ArchPin). is_same_class Clock pin.class) packed.arch.pins = omega (arith, clocks, one) in
    ap (λ (b : Bool). b || has_on packed.arch (laid_cluster packed cluster place) Clock net) (has_just packed cluster place Input (outside_inputs elements) (λ r. refl) few_inputs net)
    ∙ ap (λ (b : Bool). has (outside_inputs elements) net || b) (has_just packed cluster place Clock (clocks_of elements) (λ r. refl) few_clocks net)

-- ---- nothing else

-- lists that go together are equally long
pub zip_long : {A B : Type 0} (R : A → B → Type 0) (xs : List A) (ys : List B) → AllZip R xs ys → length xs ≡ length ys
zip_long R [] [] all = refl
zip_long R [] (y ∷ ys) all = absurd all
zip_long R (x ∷ xs) [] all = absurd all
zip_long R (x ∷ xs) (y ∷ ys) all = let rest = zip_long R xs ys all.1 in omega (arith, rest)

-- of as many routes as nets, no more of the layout's trees than of the routes have the node
few_with : (test : List (List Node) → Bool) → test [] ≡ false → (ahead routes : List (List (List Node))) (nets : List BlockNet) → length routes ≡ length nets →
    count_by (λ (between : LaidNet). test between.paths) (map (λ (net : ℕ × BlockNet). laid_net net.1 (get_or (ahead ++ routes) net.0 [])) (enumerate_from (length ahead) nets)) ≤ count_by test routes
few_with test none ahead routes [] long = omega arith
few_with test none ahead [] (net ∷ nets) long = absurd (omega (arith, long))
few_with test none ahead (paths ∷ routes) (net ∷ nets) long =
    let f : List (List (List Node)) → ℕ × BlockNet → LaidNet = λ all net. laid_net net.1 (get_or all net.0 []) in
    let p : LaidNet → Bool = λ between. test between.paths in
    let assoc : (ahead ++ paths ∷ []) ++ routes ≡ ahead ++ (paths ∷ routes) = append_assoc ahead (paths ∷ []) routes in
    let next : length (ahead ++ paths ∷ []) ≡ length ahead + 1 = length-append ahead (paths ∷ []) in
    let rest : count_by p (map (f ((ahead ++ paths ∷ []) ++ routes)) (enumerate_from (length (ahead ++ paths ∷ [])) nets)) ≤ count_by test routes = few_with test none (ahead ++ paths ∷ []) routes nets (omega (arith, long)) in
    let same : count_by p (map (f ((ahead ++ paths ∷ []) ++ routes)) (enumerate_from (length (ahead ++ paths ∷ [])) nets)) ≡ count_by p (map (f (ahead ++ (paths ∷ routes))) (enumerate_from (length ahead + 1) nets)) =
    ap (λ (all : List (List (List Node))). count_by p (map (f all) (enumerate_from (length (ahead ++ paths ∷ [])) nets))) assoc
    ∙ ap (λ (n : ℕ). count_by p (map (f (ahead ++ (paths ∷ routes))) (enumerate_from n nets))) next in
    let here : get_or (ahead ++ (paths ∷ routes)) (length ahead) [] ≡ paths = get_or-append_right ahead (paths ∷ routes) (length ahead) (length ahead) [] refl (omega arith) ∙ (let zero' : length ahead - length ahead ≡ 0 = omega arith in ap (λ (k : ℕ). get_or (paths ∷ routes) k []) zero') in
    let first : cond (p (f (ahead ++ (paths ∷ routes)) (length ahead, net))) 1 0 ≤ cond (test paths) 1 0 = one net.global (get_or (ahead ++ (paths ∷ routes)) (length ahead) []) here in
    let left : count_by p (map (f (ahead ++ (paths ∷ routes))) (enumerate_from (length ahead) (net ∷ nets))) ≡ cond (p (f (ahead ++ (paths ∷ routes)) (length ahead, net))) 1 0 + count_by p (map (f (ahead ++ (paths ∷ routes))) (enumerate_from (length ahead + 1) nets)) =
    sum_by-cons (λ (l : LaidNet). cond (p l) 1 0) (f (ahead ++ (paths ∷ routes)) (length ahead, net)) (map (f (ahead ++ (paths ∷ routes))) (enumerate_from (length ahead + 1) nets)) in
    let right : count_by test (paths ∷ routes) ≡ cond (test paths) 1 0 + count_by test routes = sum_by-cons (λ (l : List (List Node)). cond (test l) 1 0) paths routes in
    omega (arith, rest, same, first, left, right)
  where
    one : (global : Bool) (got : List (List Node)) → got ≡ paths → cond (test (cond global [] got)) 1 0 ≤ cond (test paths) 1 0
    one true got is = let no : cond (test []) 1 0 ≡ 0 = ap {B = ℕ} (λ (b : Bool). cond b 1 0) none in omega (arith, no)
    one false got is = let eq : cond (test got) 1 0 ≡ cond (test paths) 1 0 = ap {B = ℕ} (λ (l : List (List Node)). cond (test l) 1 0) is in omega (arith, eq)

pub none_shared : (arch : Arch) (strip : Strip) (packed : PackedCircuit) (places : List Place) (routes : List (List (List Node))) → IsLegal arch strip packed places routes → (node : Node) →
    count_by (λ (between : LaidNet). list_any (is_same_node node) (path_nodes between.paths)) (layout_of packed places routes).nets ≤ capacity_of arch strip node
unfolding layout_of
none_shared arch strip packed places routes legal node =
    let test : List (List Node) → Bool = λ paths. list_any (is_same_node node) (path_nodes paths) in
    let long : length (block_nets packed) ≡ length routes = zip_long (λ (net : BlockNet) (paths : List (List Node)). IsRouted arch strip (net_source packed places net) (net_sinks packed places net) paths) (block_nets packed) routes legal.routed in
    let few = few_with test refl [] routes (block_nets packed) (sym long) in
    let cap = legal.carried node in
    omega (arith, few, cap)
