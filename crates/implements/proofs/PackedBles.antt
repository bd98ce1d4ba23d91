-- The BLEs of a packed circuit's blocks: each BLE of the circuit is in one of them, and no two
-- drive the same net.
use Rattle.implements.proofs.Prelude.{◌≡◌, ◌≢◌, ℕ, ◌+◌, ◌<◌, List, [], ◌∷◌, ◌++◌, length, map, None, sym, ap, refl, ◌∙◌, subst, arith, All, AllPairs, Contains, concat, flat_map, range_with_len, get_or_default, map-append, concat_is, flat_map-append, All-contains, LogicElement, bles_of, element_at, elements_at, PackedCircuit, blocks_of, elements_in, IsPacked, IsLawfulPacking, Block, InputPad, OutputPad, Cluster, outputs_apart, pairs_map, pairs_with}
use Rattle.ble_cluster.specs.Clusters.{outputs_of}
use Rattle.implements.proofs.Results.{packed_bles}
use Rattle.implements.proofs.Members.{all_members, from_flat_map, from_map, to_map}
use Rattle.implements.proofs.Unique.{AreApart, apart_at, by_number}

-- something of each block, by kind
module _ {Y : Type 0} (f : Block → List Y) where
  no_pads : (make : ℕ → Block) → ((net : ℕ) → f (make net) ≡ []) → (nets : List ℕ) → flat_map f (map make nets) ≡ []
  no_pads make none [] = refl
  no_pads make none (net ∷ nets) = ap (λ (part : List Y). part ++ flat_map f (map make nets)) (none net) ∙ no_pads make none nets

  over_clusters : (numbers : List ℕ) → flat_map f (map Cluster numbers) ≡ flat_map (λ (number : ℕ). f (Cluster number)) numbers
  over_clusters [] = refl
  over_clusters (number ∷ numbers) = ap (λ (rest : List Y). f (Cluster number) ++ rest) (over_clusters numbers)

  pub by_kind : (packed : PackedCircuit) → flat_map f (blocks_of packed)
      ≡ (flat_map f (map InputPad packed.circuit.inputs) ++ flat_map f (map OutputPad packed.circuit.outputs)) ++ flat_map (λ (number : ℕ). f (Cluster number)) (range_with_len 0 (length packed.clusters))
  by_kind packed = grind (arith, flat_map-append, over_clusters)

module _ (packed : PackedCircuit) where
  abbrev pub bles : List LogicElement
  bles = bles_of packed.circuit

  abbrev none : LogicElement
  none = record { inputs = []; output = 0; clock = None }

  members_at : (clusters : List (List ℕ)) → flat_map (elements_at bles) clusters ≡ map (element_at bles) (concat clusters)
  members_at [] = refl
  members_at (members ∷ clusters) = grind (arith, map-append, members_at clusters)

  -- cluster by cluster
  pub in_clusters : flat_map (elements_in packed) (range_with_len 0 (length packed.clusters)) ≡ map (element_at bles) (concat packed.clusters)
  in_clusters =
      by_number (elements_at bles) (elements_in packed) 0 packed.clusters [] (λ k small. let here : 0 + k ≡ k = omega arith in ap (elements_in packed) here)
      ∙ members_at packed.clusters

  -- the BLEs of all blocks are those of the clusters' members
  pub packed_are : flat_map (packed_bles packed) (blocks_of packed) ≡ map (element_at bles) (concat packed.clusters)
  packed_are = grind (arith, by_kind, no_pads, in_clusters)

  module _ (lawful : IsPacked packed) (laws : IsLawfulPacking packed) where
    members_within : All (λ number. number < length bles) (concat packed.clusters)
    members_within = all_members (λ number. number < length bles) (concat packed.clusters) (λ number c.
        let q = from_flat_map (λ (members : List ℕ). members) packed.clusters number (subst (λ (l : List ℕ). Contains l number) (concat_is packed.clusters) c) in
        All-contains (λ number. number < length bles) q.0 number (All-contains (λ members. All (λ number. number < length bles) members) packed.clusters q.0 lawful.members q.1) q.2)

    -- no two of them drive the same net
    pub packed_apart : AreApart (outputs_of (flat_map (packed_bles packed) (blocks_of packed)))
    packed_apart =
        let R : ℕ → ℕ → Type 0 = λ net other. net ≢ other in
        let out : LogicElement → ℕ = λ element. element.output in
        let numbers : AllPairs (λ (number other : ℕ). (element_at bles number).output ≢ (element_at bles other).output) (concat packed.clusters) =
        pairs_with (λ number. number < length bles) R (λ number other. (element_at bles number).output ≢ (element_at bles other).output) (concat packed.clusters) members_within laws.once
        (λ number other small small_other differ. apart_at out bles number other none (outputs_apart packed.circuit lawful.circuit) small small_other differ) in
        subst (λ (l : List LogicElement). AreApart (map out l)) (sym packed_are) (pairs_map R out (map (element_at bles) (concat packed.clusters)) (pairs_of numbers))
      where
        pairs_of : AllPairs (λ (number other : ℕ). (element_at bles number).output ≢ (element_at bles other).output) (concat packed.clusters) →
            AllPairs (λ (element other : LogicElement). element.output ≢ other.output) (map (element_at bles) (concat packed.clusters))
        pairs_of pairs = pairs_map (λ (element other : LogicElement). element.output ≢ other.output) (element_at bles) (concat packed.clusters) pairs

    -- each is one of the circuit
    pub from_packed : (element : LogicElement) → Contains (flat_map (packed_bles packed) (blocks_of packed)) element → Contains bles element
    from_packed element c =
        let q = from_map (element_at bles) (concat packed.clusters) element (subst (λ (l : List LogicElement). Contains l element) packed_are c) in
        let small : q.0 < length bles = All-contains (λ number. number < length bles) (concat packed.clusters) q.0 members_within q.1 in
        subst (λ (e : LogicElement). Contains bles e) q.2 (q.0, small, get_or_default bles q.0 (element_at bles q.0) none small)

    -- and each of the circuit is one of them
    pub to_packed : (element : LogicElement) → Contains bles element → Contains (flat_map (packed_bles packed) (blocks_of packed)) element
    to_packed element (number, small, is) = grind (arith, packed_are, to_map (element_at bles) (concat packed.clusters) number (laws.whole number small), get_or_default bles number none element small)
