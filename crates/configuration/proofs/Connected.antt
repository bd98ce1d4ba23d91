-- The tables, latches and outputs of the netlist in the configuration of its layout.
use Rattle.configuration.proofs.Prelude.{◌≡◌, ℕ, suc, zero, Bool, true, false, ◌||◌, ◌==◌, List, [], ◌∷◌, Option, Some, slice_get, sym, ap, refl, ◌∙◌, inl, inr, ◌⊎◌, subst, map, arith, Contains, count_by, list_all, list_any, eqb-true, nat_tests, All-contains, JoinedLine, Arch, Circuit, Latch, LookupTable, has, LogicElement, Block, OutputPad, Strip, Place, IsStripSize, holds_latch, holds_table, is_latch, is_pair, is_same_net, receives, Implements, output_at, LaidBlock, Layout, traced_ble, traced_bles, counted, from_all, from_any, from_flat_map, from_has, from_map, in_cases, in_none, to_any, configuration_of, Configures, IsClockedBy, Shows, Spot, TakesAt}
use Rattle.configuration.proofs.Wiring.{clocked, is_used, shown, taken}

-- the place of a member
pub get_at : {X : Type 0} (xs : List X) (x : X) → Contains xs x → (k : ℕ) × (slice_get xs k ≡ Some x)
get_at [] x c = absurd (in_none x c)
get_at (y ∷ xs) x c = elim (in_cases y x xs c) [
  | inl e ↦ (zero, ap (λ z. Some z) e)
  | inr d ↦ (let q = get_at xs x d in (suc q.0, q.1))
]

is_output : (block : Block) (net : ℕ) → Contains (output_at block) net → block ≡ OutputPad net
is_output block net c = grind arith

same_net : (a b : Option ℕ) → is_same_net a b ≡ true → a ≡ b
same_net a b h = grind arith

receives_all : (element : LogicElement) (nets : List ℕ) (net : ℕ) → receives element nets ≡ true → has nets net ≡ true → Contains element.inputs net
receives_all element nets net r is =
    let all : list_all (has element.inputs) nets ≡ true = grind (arith, r) in
    from_has element.inputs net (from_all (has element.inputs) nets net all (from_has nets net is))

module _ (circuit : Circuit) where
  pub reads_table : (element : LogicElement) (table : LookupTable) → holds_table circuit element table ≡ true → receives element table.inputs ≡ true
  reads_table element table holds = search (from_any, arith)

  -- what a BLE that holds a latch is
  pub record LatchParts (element : LogicElement) (latch : Latch) : Type 0 where
    pub data' : Contains element.inputs latch.input ⊎ ((table : LookupTable) × (table.output ≡ latch.input) × (holds_table circuit element table ≡ true))
    pub clock : element.clock ≡ latch.control
    pub output : element.output ≡ latch.output

  latch_parts : (element : LogicElement) (latch : Latch) → Contains circuit.latches latch → holds_latch circuit element latch ≡ true → LatchParts element latch
  latch_parts element latch in' holds = by (is_latch element latch) refl
    where
      by : (b : Bool) → is_latch element latch ≡ b → LatchParts element latch
      by true is =
          let r : receives element (latch.input ∷ []) ≡ true = grind (arith, is) in
          let c : is_same_net element.clock latch.control ≡ true = grind (arith, is) in
          let o : (element.output == latch.output) ≡ true = grind (arith, is) in
          record { data' = inl (receives_all element (latch.input ∷ []) latch.input r (grind (arith, nat_tests))); clock = same_net element.clock latch.control c; output = eqb-true element.output latch.output o }
      by false is =
          let pair = from_any (λ table. is_pair circuit element table latch) circuit.tables (sym (ap (λ (b : Bool). b || list_any (λ table. is_pair circuit element table latch) circuit.tables) is) ∙ holds) in
          let table = pair.0 in
          let both : is_pair circuit element table latch ≡ true = pair.2 in
          let input : (latch.input == table.output) ≡ true = grind (arith, both) in
          let c : is_same_net element.clock latch.control ≡ true = grind (arith, both) in
          let o : (element.output == latch.output) ≡ true = grind (arith, both) in
          let any : list_any (is_pair circuit element table) circuit.latches ≡ true = to_any (is_pair circuit element table) circuit.latches latch in' both in
          record { data' = inr (table, sym (eqb-true latch.input table.output input), grind (arith, any)); clock = same_net element.clock latch.control c; output = eqb-true element.output latch.output o }

module _ (lines : List JoinedLine) (circuit : Circuit) (arch : Arch) (strip : Strip) (layout : Layout) (size : IsStripSize strip) (h : Implements circuit arch strip layout) where
  spotted : (element : LogicElement) → Contains (traced_bles arch layout) element → (spot : Spot layout) × (traced_ble arch spot.laid spot.ble ≡ element)
  spotted element c =
      let outer = from_flat_map (λ (block : LaidBlock). map (traced_ble arch block) block.bles) layout.blocks element c in
      let inner = from_map (traced_ble arch outer.0) outer.0.bles element outer.2 in
      let at = get_at outer.0.bles inner.0 inner.1 in
      (record { laid = outer.0; there = outer.1; index = at.0; ble = inner.0; is = at.1 }, inner.2)

  received : (spot : Spot layout) (net : ℕ) → Contains (traced_ble arch spot.laid spot.ble).inputs net → (j : ℕ) × TakesAt arch strip layout (configuration_of lines circuit arch strip layout) spot j net
  received spot net c = let at = get_at (traced_ble arch spot.laid spot.ble).inputs net c in (at.0, taken lines circuit arch strip layout size h spot at.0 net at.1)

  tables_there : (table : LookupTable) → Contains circuit.tables table → (spot : Spot layout) × (holds_table circuit (traced_ble arch spot.laid spot.ble) table ≡ true)
      × ((net : ℕ) → has table.inputs net ≡ true → (j : ℕ) × TakesAt arch strip layout (configuration_of lines circuit arch strip layout) spot j net)
  tables_there table c =
      let once = All-contains (λ table. count_by (λ element. holds_table circuit element table) (traced_bles arch layout) ≡ 1) circuit.tables table h.held.tables c in
      let found = from_any (λ element. holds_table circuit element table) (traced_bles arch layout) (counted (λ element. holds_table circuit element table) (traced_bles arch layout) once) in
      let at = spotted found.0 found.1 in
      let holds : holds_table circuit (traced_ble arch at.0.laid at.0.ble) table ≡ true = ap (λ element. holds_table circuit element table) at.1 ∙ found.2 in
      (at.0, holds, λ net is. received at.0 net (receives_all (traced_ble arch at.0.laid at.0.ble) table.inputs net (reads_table circuit (traced_ble arch at.0.laid at.0.ble) table holds) is))

  latches_there : (latch : Latch) → Contains circuit.latches latch → (spot : Spot layout) × (holds_latch circuit (traced_ble arch spot.laid spot.ble) latch ≡ true)
      × (((j : ℕ) × TakesAt arch strip layout (configuration_of lines circuit arch strip layout) spot j latch.input) ⊎ ((table : LookupTable) × (table.output ≡ latch.input) × (holds_table circuit (traced_ble arch spot.laid spot.ble) table ≡ true)))
      × ((net : ℕ) → latch.control ≡ Some net → IsClockedBy arch strip layout (configuration_of lines circuit arch strip layout) spot net)
  latches_there latch c =
      let once = All-contains (λ latch. count_by (λ element. holds_latch circuit element latch) (traced_bles arch layout) ≡ 1) circuit.latches latch h.held.latches c in
      let found = from_any (λ element. holds_latch circuit element latch) (traced_bles arch layout) (counted (λ element. holds_latch circuit element latch) (traced_bles arch layout) once) in
      let at = spotted found.0 found.1 in
      let element = traced_ble arch at.0.laid at.0.ble in
      let holds : holds_latch circuit element latch ≡ true = ap (λ element. holds_latch circuit element latch) at.1 ∙ found.2 in
      let parts = latch_parts circuit element latch c holds in
      (at.0, holds, elim parts.data' [ inl e ↦ inl (received at.0 latch.input e) | inr e ↦ inr e ], λ net is. clocked lines circuit arch strip layout size h at.0 latch net c is parts.output (parts.clock ∙ is))

  outputs_there : (net : ℕ) → Contains circuit.outputs net → (place : Place) × Shows arch strip layout (configuration_of lines circuit arch strip layout) place net
  outputs_there net c =
      let found = from_flat_map (λ (laid : LaidBlock). output_at laid.block) layout.blocks net (subst (λ nets. Contains nets net) (sym h.outputs) c) in
      (found.0.place, shown lines circuit arch strip layout size h found.0 net found.1 (is_output found.0.block net found.2))

  pub configures : Configures circuit arch strip layout (configuration_of lines circuit arch strip layout)
  configures = grind (arith, is_used, taken, tables_there, latches_there, outputs_there)
