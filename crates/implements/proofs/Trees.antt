-- The trees of the layout of results lead to just the blocks at which their nets are wanted.
use Rattle.implements.proofs.Prelude.{get_or, ◌≡◌, ℕ, ◌<◌, Bool, true, false, ◌||◌, not, [], length, Option, Some, None, sym, ap, refl, ◌∙◌, inl, inr, subst, Contains, flat_map, option_to_list, get_or_default, Circuit, Latch, LookupTable, distinct_nets, has, clocks_of, outside_inputs, has-distinct, LogicElement, bles_of, element_at, element_of_table, latch_after, stands_alone, PackedCircuit, outputs_of, elements_in, is_global, leaves_block, nets_from, reads_net, IsPacked, Block, InputPad, OutputPad, Cluster, HasCluster}
use Rattle.implements.proofs.BleKinds.{behind_is}
use Rattle.implements.proofs.BleMembers.{from_bles}
use Rattle.implements.proofs.Members.{from_filter, from_flat_map, from_has, from_map, in_none, only_one, one_only, to_flat_map, to_has}

-- what clocks a BLE controls a latch of the circuit
module _ (circuit : Circuit) where
  of_latch : (latch : Latch) (net : ℕ) → Contains circuit.latches latch → latch.control ≡ Some net → is_global circuit net ≡ true
  of_latch latch net in' is = to_has (flat_map (λ (latch : Latch). option_to_list latch.control) circuit.latches) net (to_flat_map (λ (latch : Latch). option_to_list latch.control) circuit.latches latch net in' (one_only latch.control net is))

  pub clock_global : (element : LogicElement) (net : ℕ) → Contains (bles_of circuit) element → element.clock ≡ Some net → is_global circuit net ≡ true
  clock_global element net c is = elim (from_bles circuit element c) [
    | inl t ↦ of_table t.0 (latch_after circuit t.0.output) refl (ap (λ (e : LogicElement). e.clock) t.2 ∙ is)
    | inr l ↦ of_latch l.0 net (from_filter (stands_alone circuit) circuit.latches l.0 l.1).0 (ap (λ (e : LogicElement). e.clock) l.2 ∙ is)
  ]
    where
      of_table : (table : LookupTable) (o : Option Latch) → latch_after circuit table.output ≡ o → (element_of_table table o).clock ≡ Some net → is_global circuit net ≡ true
      of_table table None e h = absurd cc
      of_table table (Some latch) e h = of_latch latch net (behind_is circuit table.output latch e).1.0 h

-- a net that clocks a BLE of a cluster is global
pub clocks_global : (packed : PackedCircuit) → IsPacked packed → (cluster net : ℕ) → cluster < length packed.clusters → has (clocks_of (elements_in packed cluster)) net ≡ true → is_global packed.circuit net ≡ true
clocks_global packed lawful cluster net small h =
    let elements = elements_in packed cluster in
    let all = flat_map (λ (element : LogicElement). option_to_list element.clock) elements in
    let q = from_flat_map (λ (element : LogicElement). option_to_list element.clock) elements net (from_has all net (sym (has-distinct all net) ∙ h)) in
    let members = get_or packed.clusters cluster [] in
    let m = from_map (element_at (bles_of packed.circuit)) members q.0 q.1 in
    let within : m.0 < length (bles_of packed.circuit) = subst (λ k. k < length (bles_of packed.circuit)) (m.1.2) (lawful.members cluster [] small m.1.0 m.0 m.1.1) in
    let none : LogicElement = record { inputs = []; output = 0; clock = None } in
    let there : Contains (bles_of packed.circuit) q.0 = subst (λ (e : LogicElement). Contains (bles_of packed.circuit) e) m.2 (m.0, within, get_or_default (bles_of packed.circuit) m.0 (element_at (bles_of packed.circuit) m.0) none within) in
    clock_global packed.circuit q.0 net there (only_one q.0.clock net q.2)

-- a cluster that drives a net which is not global doesn't read it from outside
pub own_reads_not : (packed : PackedCircuit) → IsPacked packed → (cluster net : ℕ) → cluster < length packed.clusters → has (outputs_of (elements_in packed cluster)) net ≡ true → is_global packed.circuit net ≡ false → reads_net packed net (Cluster cluster) ≡ false
own_reads_not packed lawful cluster net there driven fabric_net = by (has (outside_inputs (elements_in packed cluster)) net) refl (has (clocks_of (elements_in packed cluster)) net) refl
  where
    by : (a : Bool) → has (outside_inputs (elements_in packed cluster)) net ≡ a → (b : Bool) → has (clocks_of (elements_in packed cluster)) net ≡ b →
        (has (outside_inputs (elements_in packed cluster)) net || has (clocks_of (elements_in packed cluster)) net) ≡ false
    by true is b eq =
        let elements = elements_in packed cluster in
        let test : ℕ → Bool = λ net. not (has (outputs_of elements) net) in
        let q = from_filter test (distinct_nets (flat_map (λ (element : LogicElement). element.inputs) elements)) net (from_has (outside_inputs elements) net is) in
        let wrong : false ≡ true = sym (ap not driven) ∙ q.1 in absurd cc
    by false is true eq = let wrong : false ≡ true = sym fabric_net ∙ clocks_global packed lawful cluster net there eq in absurd cc
    by false is false eq = ap (λ (a : Bool). a || has (clocks_of (elements_in packed cluster)) net) is ∙ eq

-- a block that drives a net between blocks which is not global doesn't read it
pub driver_reads_not : (packed : PackedCircuit) → IsPacked packed → (driver net : ℕ) (block : Block) → HasCluster packed block → Contains (nets_from packed driver block) net → is_global packed.circuit net ≡ false → reads_net packed net block ≡ false
driver_reads_not packed lawful driver net (InputPad input) there drives fabric_net = refl
driver_reads_not packed lawful driver net (OutputPad output) there drives fabric_net = absurd (in_none net drives)
driver_reads_not packed lawful driver net (Cluster cluster) there drives fabric_net =
    let outputs = outputs_of (elements_in packed cluster) in
    own_reads_not packed lawful cluster net there (to_has outputs net (from_filter (leaves_block packed driver) outputs net drives).0) fabric_net
