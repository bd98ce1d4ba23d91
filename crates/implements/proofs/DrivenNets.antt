-- What a net that is read is driven by: it is an input of the circuit, or a BLE drives it.
use Rattle.implements.proofs.Prelude.{◌≡◌, ℕ, Bool, true, false, ◌&&◌, ◌==◌, not, List, [], ◌∷◌, ◌++◌, map, nat_eq, Option, Some, None, sym, ap, refl, ◌∙◌, inl, inr, ◌⊎◌, subst, arith, All, Contains, flat_map, list_any, option_to_list, eqb-true, nat_tests, All-contains, Circuit, Latch, IsCircuit, IsLatchDriven, drivers_of, has_net, LookupTable, LogicElement, bles_of, element_of_latch, element_of_table, is_read_once, latch_after, stands_alone, distinct_nets, has-distinct}
use Rattle.implements.proofs.BleKinds.{behind_is}
use Rattle.implements.proofs.BleHolders.{IsReadElsewhere, behind_there, read_by_latch}
use Rattle.implements.proofs.BleMembers.{alone, from_bles, latch_in_bles, of_table, table_in_bles}
use Rattle.implements.proofs.Members.{from_any, from_append, from_filter, from_flat_map, from_has, from_map, in_cases, in_none, only_one, to_any, to_append_left, to_append_right, to_flat_map, to_has, to_map}

from_has_net : (nets : List ℕ) (net : ℕ) → has_net nets net ≡ true → Contains nets net
from_has_net nets net h = let q = from_any (nat_eq net) nets h in subst (λ n. Contains nets n) (sym (eqb-true net q.0 q.2)) q.1

-- what a BLE drives is the net of a table or of a latch
pub bles_drive : (circuit : Circuit) (element : LogicElement) → Contains (bles_of circuit) element →
    Contains (map (λ (table : LookupTable). table.output) circuit.tables ++ map (λ (latch : Latch). latch.output) circuit.latches) element.output
bles_drive circuit element c = by (from_bles circuit element c)
  where
    of_latch : (latch : Latch) → Contains circuit.latches latch → Contains (map (λ (table : LookupTable). table.output) circuit.tables ++ map (λ (latch : Latch). latch.output) circuit.latches) latch.output
    of_latch latch d =
        to_append_right (map (λ (table : LookupTable). table.output) circuit.tables) (map (λ (latch : Latch). latch.output) circuit.latches) latch.output
        (to_map (λ (latch : Latch). latch.output) circuit.latches latch d)

    of : (table : LookupTable) → Contains circuit.tables table → (o : Option Latch) → latch_after circuit table.output ≡ o →
        Contains (map (λ (table : LookupTable). table.output) circuit.tables ++ map (λ (latch : Latch). latch.output) circuit.latches) (element_of_table table o).output
    of table d None is =
        to_append_left (map (λ (table : LookupTable). table.output) circuit.tables) (map (λ (latch : Latch). latch.output) circuit.latches) table.output
        (to_map (λ (table : LookupTable). table.output) circuit.tables table d)
    of table d (Some latch) is = of_latch latch (behind_is circuit table.output latch is).1.0

    by : ((table : LookupTable) × Contains circuit.tables table × (of_table circuit table ≡ element)) ⊎ ((latch : Latch) × Contains (alone circuit) latch × (element_of_latch latch ≡ element)) →
        Contains (map (λ (table : LookupTable). table.output) circuit.tables ++ map (λ (latch : Latch). latch.output) circuit.latches) element.output
    by (inl t) =
        subst (λ (e : LogicElement). Contains (map (λ (table : LookupTable). table.output) circuit.tables ++ map (λ (latch : Latch). latch.output) circuit.latches) e.output) t.2
        (of t.0 t.1 (latch_after circuit t.0.output) refl)
    by (inr l) =
        subst (λ (e : LogicElement). Contains (map (λ (table : LookupTable). table.output) circuit.tables ++ map (λ (latch : Latch). latch.output) circuit.latches) e.output) l.2
        (of_latch l.0 (from_filter (stands_alone circuit) circuit.latches l.0 l.1).0)

module _ (circuit : Circuit) (lawful : IsCircuit circuit) where
  -- a BLE reads the net, or a latch is controlled by it, or it is an output
  pub record IsReadOutside (net : ℕ) : Type 0 where
    pub place : IsReadElsewhere circuit net ⊎ ((latch : Latch) × Contains (alone circuit) latch × (latch.input ≡ net))

  -- the BLE that drives the net
  pub record DrivingBle (net : ℕ) : Type 0 where
    pub element : LogicElement
    pub there : Contains (bles_of circuit) element
    pub drives : element.output ≡ net

  is_driven : (net : ℕ) → IsReadOutside net → Contains (drivers_of circuit) net
  is_driven net read = from_has_net (drivers_of circuit) net (by read.place)
    where
      elsewhere : Contains (flat_map (λ (table : LookupTable). table.inputs) circuit.tables) net ⊎ (Contains (flat_map (λ (latch : Latch). option_to_list latch.control) circuit.latches) net ⊎ Contains circuit.outputs net) →
          has_net (drivers_of circuit) net ≡ true
      elsewhere (inl c) =
          let q = from_flat_map (λ (table : LookupTable). table.inputs) circuit.tables net c in
          All-contains (λ net. has_net (drivers_of circuit) net ≡ true) q.0.inputs net
          (All-contains (λ (table : LookupTable). All (λ net. has_net (drivers_of circuit) net ≡ true) table.inputs) circuit.tables q.0 lawful.driven_tables q.1) q.2
      elsewhere (inr (inl c)) =
          let q = from_flat_map (λ (latch : Latch). option_to_list latch.control) circuit.latches net c in
          (All-contains (IsLatchDriven (drivers_of circuit)) circuit.latches q.0 lawful.driven_latches q.1).control net (only_one q.0.control net q.2)
      elsewhere (inr (inr c)) = All-contains (λ net. has_net (drivers_of circuit) net ≡ true) circuit.outputs net lawful.driven_outputs c

      by : IsReadElsewhere circuit net ⊎ ((latch : Latch) × Contains (alone circuit) latch × (latch.input ≡ net)) → has_net (drivers_of circuit) net ≡ true
      by (inl some) = elsewhere some.place
      by (inr latch) =
          let there = (from_filter (stands_alone circuit) circuit.latches latch.0 latch.1).0 in
          subst (λ n. has_net (drivers_of circuit) n ≡ true) latch.2 (All-contains (IsLatchDriven (drivers_of circuit)) circuit.latches latch.0 lawful.driven_latches there).input

  -- the net of a table, unless its latch alone reads it
  by_table : (table : LookupTable) → Contains circuit.tables table → IsReadOutside table.output → DrivingBle table.output
  by_table table c read = by (latch_after circuit table.output) refl
    where
      never : (latch : Latch) → is_read_once circuit table.output ≡ true → Contains circuit.latches latch → latch.input ≡ table.output →
          IsReadElsewhere circuit table.output ⊎ ((other : Latch) × Contains (alone circuit) other × (other.input ≡ table.output)) → ⊥
      never latch once there input (inl some) = read_by_latch circuit table.output latch once there input some
      never latch once there input (inr other) =
          let passes = (from_filter (stands_alone circuit) circuit.latches other.0 other.1).1 in
          let drives : (table.output == other.0.input) ≡ true = grind (arith, nat_tests, other.2) in
          let any = to_any (λ (table : LookupTable). table.output == other.0.input) circuit.tables table c drives in
          let single : is_read_once circuit other.0.input ≡ true = ap (is_read_once circuit) other.2 ∙ once in
          let wrong : false ≡ true = sym (ap (λ (b : Bool). not (b && list_any (λ (table : LookupTable). table.output == other.0.input) circuit.tables)) single ∙ ap not any) ∙ passes in
          absurd cc

      by : (o : Option Latch) → latch_after circuit table.output ≡ o → DrivingBle table.output
      by None is = record { element = of_table circuit table; there = table_in_bles circuit table c; drives = ap (λ (o : Option Latch). (element_of_table table o).output) is }
      by (Some latch) is =
          let q = behind_is circuit table.output latch is in
          absurd (never latch q.0 q.1.0 (eqb-true latch.input table.output q.1.1) read.place)

  -- the net of a latch
  by_latch : (latch : Latch) → Contains circuit.latches latch → DrivingBle latch.output
  by_latch latch c = by (is_read_once circuit latch.input) refl (list_any (λ (table : LookupTable). table.output == latch.input) circuit.tables) refl
    where
      lone : stands_alone circuit latch ≡ true → DrivingBle latch.output
      lone is = record { element = element_of_latch latch; there = latch_in_bles circuit latch c is; drives = refl }

      by : (a : Bool) → is_read_once circuit latch.input ≡ a → (b : Bool) → list_any (λ (table : LookupTable). table.output == latch.input) circuit.tables ≡ b → DrivingBle latch.output
      by false is b eq = lone (ap (λ (a : Bool). not (a && list_any (λ (table : LookupTable). table.output == latch.input) circuit.tables)) is)
      by true is false eq = lone (ap (λ (a : Bool). not (a && list_any (λ (table : LookupTable). table.output == latch.input) circuit.tables)) is ∙ ap not eq)
      by true is true eq =
          let q = from_any (λ (table : LookupTable). table.output == latch.input) circuit.tables eq in
          let same : q.0.output ≡ latch.input = eqb-true q.0.output latch.input q.2 in
          let behind : latch_after circuit q.0.output ≡ Some latch = behind_there circuit q.0.output latch (ap (is_read_once circuit) same ∙ is) c (sym same) in
          record { element = of_table circuit q.0; there = table_in_bles circuit q.0 q.1; drives = ap (λ (o : Option Latch). (element_of_table q.0 o).output) behind }

  pub driven_by : (net : ℕ) → IsReadOutside net → Contains circuit.inputs net ⊎ DrivingBle net
  driven_by net read =
      let tables = map (λ (table : LookupTable). table.output) circuit.tables in
      let latches = map (λ (latch : Latch). latch.output) circuit.latches in
      elim (from_append circuit.inputs (tables ++ latches) net (is_driven net read)) [
        | inl c ↦ inl c
        | inr rest ↦ inr (elim (from_append tables latches net rest) [
          | inl c ↦ (let q = from_map (λ (table : LookupTable). table.output) circuit.tables net c in subst DrivingBle q.2 (by_table q.0 q.1 (subst IsReadOutside (sym q.2) read)))
          | inr c ↦ (let q = from_map (λ (latch : Latch). latch.output) circuit.latches net c in subst DrivingBle q.2 (by_latch q.0 q.1))
        ])
      ]

  -- what a BLE reads
  pub read_by_ble : (element : LogicElement) (net : ℕ) → Contains (bles_of circuit) element → Contains element.inputs net → IsReadOutside net
  read_by_ble element net c reads = by (from_bles circuit element c)
    where
      inputs : (table : LookupTable) (o : Option Latch) → (element_of_table table o).inputs ≡ distinct_nets table.inputs
      inputs table None = refl
      inputs table (Some latch) = refl

      by : ((table : LookupTable) × Contains circuit.tables table × (of_table circuit table ≡ element)) ⊎ ((latch : Latch) × Contains (alone circuit) latch × (element_of_latch latch ≡ element)) → IsReadOutside net
      by (inl t) =
          let all : Contains (distinct_nets t.0.inputs) net = subst (λ (l : List ℕ). Contains l net) (sym (ap (λ (e : LogicElement). e.inputs) t.2) ∙ inputs t.0 (latch_after circuit t.0.output)) reads in
          let read : Contains t.0.inputs net = from_has t.0.inputs net (sym (has-distinct t.0.inputs net) ∙ to_has (distinct_nets t.0.inputs) net all) in
          record { place = inl (record { place = inl (to_flat_map (λ (table : LookupTable). table.inputs) circuit.tables t.0 net t.1 read) }) }
      by (inr l) =
          let read : Contains (l.0.input ∷ []) net = subst (λ (ns : List ℕ). Contains ns net) (sym (ap (λ (e : LogicElement). e.inputs) l.2)) reads in
          record { place = inr (l.0, l.1, elim (in_cases l.0.input net [] read) [ inl e ↦ e | inr d ↦ absurd (in_none net d) ]) }
