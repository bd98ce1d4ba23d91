-- A layout that implements a circuit connects it.
use Rattle.implements.proofs.Prelude.{◌≡◌, ℕ, ◌<◌, Bool, true, false, ◌||◌, ◌==◌, List, [], ◌∷◌, cond, filter, length, map, Option, Some, None, slice_get, sym, ap, refl, ◌∙◌, inl, inr, ◌⊎◌, subst, arith, option_map, Contains, count_by, list_all, list_any, range_with_len, option_to_list, eqb-true, nat_tests, All-contains, Arch, PinClass, Input, Clock, Circuit, Latch, LookupTable, has, LogicElement, Block, OutputPad, is_global, Strip, IsRouted, LeadsOver, pairs_of, sink_at, source_at, is_edge, Node, Feed, Ble, holds_latch, holds_table, is_latch, is_pair, is_same_net, receives, Implements, IsLaid, ble_places, drives, has_on, is_net, output_at, sinks_of, wants, wants_as, LaidBle, LaidBlock, LaidNet, Layout, input_net, on_pin, traced_ble, traced_bles, ComesIn, ComesTo, Connects, LeadsTo, Receives, Spot}
use Rattle.implements.specs.declared.feed.Feed.TheVariants.{Pin}
use Rattle.implements.proofs.Members.{counted, from_all, from_any, from_flat_map, from_get, from_has, from_map, in_none, in_range, to_any, to_filter, to_map}

-- a way to a sink of a routed net
led : (arch : Arch) (strip : Strip) (source sink : Node) (sinks : List Node) (paths : List (List Node)) → IsRouted arch strip source sinks paths → Contains sinks sink →
    ((way : List Node) × LeadsOver (pairs_of paths) sink source way) × ((a b : Node) → Contains (pairs_of paths) (a, b) → is_edge arch strip a b ≡ true)
led arch strip source sink [] paths routed c = absurd (in_none sink c)
led arch strip source sink (first ∷ sinks) paths routed c = (routed.is_tree.reached sink ((routed.leaves sink).1 c).0, routed.is_tree.edges)

-- the input of a pin or of a clock is wanted at the block
on_some : (arch : Arch) (laid : LaidBlock) (class : PinClass) (pin net : ℕ) → on_pin arch laid class pin ≡ Some net → pin < length arch.pins
on_some arch laid class pin net h = grind (arith, from_get)

pub has_pin : (arch : Arch) (laid : LaidBlock) (class : PinClass) (pin net : ℕ) → on_pin arch laid class pin ≡ Some net → has_on arch laid class net ≡ true
has_pin arch laid class pin net h =
    let same : (net == net) ≡ true = grind (arith, nat_tests) in
    to_any (λ pin. is_net net (on_pin arch laid class pin)) (range_with_len 0 (length arch.pins)) pin (in_range 0 (length arch.pins) pin (omega arith) (omega (arith, on_some arch laid class pin net h))) (ap (is_net net) h ∙ same)

-- a block that has a BLE is a cluster
wanted_in : (arch : Arch) (laid : LaidBlock) (net : ℕ) (block : Block) → 0 < ble_places arch block → (has_on arch laid Input net || has_on arch laid Clock net) ≡ true → wants_as arch net laid block ≡ true
wanted_in arch laid net block places h = grind arith

is_output : (block : Block) (net : ℕ) → Contains (output_at block) net → block ≡ OutputPad net
is_output block net c = grind arith

-- an option that holds the number
only : (o : Option ℕ) (net : ℕ) → Contains (option_to_list o) net → o ≡ Some net
only o net c = grind arith

same_net : (a b : Option ℕ) → is_same_net a b ≡ true → a ≡ b
same_net a b h = grind arith

module _ (circuit : Circuit) (arch : Arch) (strip : Strip) (layout : Layout) (h : Implements circuit arch strip layout) where
  -- a net comes to each block at which it is wanted
  came : (laid : LaidBlock) (net : ℕ) → Contains layout.blocks laid → wants arch net laid ≡ true → ComesTo circuit arch strip layout laid net
  came laid net there wanted =
      let stands : has (map (λ (between : LaidNet). between.net) layout.nets) net ≡ true = All-contains (λ laid. (net : ℕ) → wants arch net laid ≡ true → has (map (λ (between : LaidNet). between.net) layout.nets) net ≡ true) layout.blocks laid h.all there net wanted in
      let entry = from_map (λ (between : LaidNet). between.net) layout.nets net (from_has (map (λ (between : LaidNet). between.net) layout.nets) net stands) in
      let between = entry.0 in
      let is : IsLaid circuit arch strip layout between = All-contains (IsLaid circuit arch strip layout) layout.nets between h.laid entry.1 in
      let sinks : List Node = map (λ (laid : LaidBlock). sink_at laid.block laid.place) (filter (wants arch net) layout.blocks) in
      record {
        driver = is.block;
        there = (from_get layout.blocks is.driver is.block is.there).1;
        driven = subst (λ net. drives net is.block ≡ true) entry.2 is.driven;
        way = by (is_global circuit net) refl between entry.1 entry.2 is.block
            (subst (λ net. IsRouted arch strip (source_at is.block.block is.block.place) (sinks_of circuit arch layout net) between.paths) entry.2 is.tree);
      }
    where
      by : (b : Bool) → is_global circuit net ≡ b → (between : LaidNet) → Contains layout.nets between → between.net ≡ net → (driver : LaidBlock) →
          IsRouted arch strip (source_at driver.block driver.place) (sinks_of circuit arch layout net) between.paths → (is_global circuit net ≡ true) ⊎ LeadsTo arch strip layout net driver laid
      by true is between in' same driver tree = inl is
      by false is between in' same driver tree =
          let sinks : List Node = map (λ (laid : LaidBlock). sink_at laid.block laid.place) (filter (wants arch net) layout.blocks) in
          let routed : IsRouted arch strip (source_at driver.block driver.place) sinks between.paths = subst (λ b. IsRouted arch strip (source_at driver.block driver.place) (cond b [] sinks) between.paths) is tree in
          let mine : Contains sinks (sink_at laid.block laid.place) = to_map (λ (laid : LaidBlock). sink_at laid.block laid.place) (filter (wants arch net) layout.blocks) laid (to_filter (wants arch net) layout.blocks laid there wanted) in
          let way = led arch strip (source_at driver.block driver.place) (sink_at laid.block laid.place) sinks between.paths routed mine in
          inr (record { between = between; there = in'; same = same; way = way.0.0; leads = way.0.1; edges = way.1 })

  -- a block with a BLE has places for one
  placed : (laid : LaidBlock) (ble : LaidBle) → Contains layout.blocks laid → Contains laid.bles ble → 0 < ble_places arch laid.block
  placed laid ble there inside = grind arith

  -- the BLE of a traced one
  spotted : (element : LogicElement) → Contains (traced_bles arch layout) element → (spot : Spot layout) × (traced_ble arch spot.laid spot.ble ≡ element)
  spotted element c =
      let outer = from_flat_map (λ (block : LaidBlock). map (traced_ble arch block) block.bles) layout.blocks element c in
      let inner = from_map (traced_ble arch outer.0) outer.0.bles element outer.2 in
      (record { laid = outer.0; there = outer.1; ble = inner.0; inside = inner.1 }, inner.2)

  -- a net that a traced BLE receives comes in
  received : (spot : Spot layout) (net : ℕ) → Contains (traced_ble arch spot.laid spot.ble).inputs net → Receives circuit arch strip layout spot net
  received spot net c =
      let feeds = from_flat_map (λ (feed : Feed). option_to_list (input_net arch spot.laid feed)) spot.ble.inputs net c in
      (feeds.0, feeds.1, by feeds.0 (only (input_net arch spot.laid feeds.0) net feeds.2))
    where
      by : (feed : Feed) → input_net arch spot.laid feed ≡ Some net → ComesIn circuit arch strip layout spot.laid net feed
      by (Pin pin) is =
          let has : has_on arch spot.laid Input net ≡ true = has_pin arch spot.laid Input pin net is in
          came spot.laid net spot.there (wanted_in arch spot.laid net spot.laid.block (placed spot.laid spot.ble spot.there spot.inside) (ap (λ (b : Bool). b || has_on arch spot.laid Clock net) has))
      by (Ble place) is = inside (slice_get spot.laid.bles place) refl
        where
          inside : (o : Option LaidBle) → slice_get spot.laid.bles place ≡ o → (ble : LaidBle) × (slice_get spot.laid.bles place ≡ Some ble) × (ble.name ≡ net)
          inside None none = let wrong : None ≡ Some net = sym (ap (option_map (λ (ble : LaidBle). ble.name)) none) ∙ is in absurd cc
          inside (Some ble) some = let found : Some ble.name ≡ Some net = sym (ap (option_map (λ (ble : LaidBle). ble.name)) some) ∙ is in (ble, some, grind (arith, found))

  -- its clock too
  clocked : (spot : Spot layout) (net : ℕ) → (traced_ble arch spot.laid spot.ble).clock ≡ Some net → ComesTo circuit arch strip layout spot.laid net
  clocked spot net is = grind (arith, has_pin, came)

  -- what is asked of a BLE's inputs
  receives_all : (element : LogicElement) (nets : List ℕ) (net : ℕ) → receives element nets ≡ true → has nets net ≡ true → Contains element.inputs net
  receives_all element nets net r is =
      let all : list_all (has element.inputs) nets ≡ true = grind (arith, r) in
      from_has element.inputs net (from_all (has element.inputs) nets net all (from_has nets net is))

  -- a BLE that holds the table reads all that it reads
  reads_table : (element : LogicElement) (table : LookupTable) → holds_table circuit element table ≡ true → receives element table.inputs ≡ true
  reads_table element table holds = search (from_any, arith)

  tables_connected : (table : LookupTable) → Contains circuit.tables table →
      (spot : Spot layout) × (holds_table circuit (traced_ble arch spot.laid spot.ble) table ≡ true) × ((net : ℕ) → has table.inputs net ≡ true → Receives circuit arch strip layout spot net)
  tables_connected table c =
      let once = All-contains (λ table. count_by (λ element. holds_table circuit element table) (traced_bles arch layout) ≡ 1) circuit.tables table h.held.tables c in
      let found = from_any (λ element. holds_table circuit element table) (traced_bles arch layout) (counted (λ element. holds_table circuit element table) (traced_bles arch layout) once) in
      let at = spotted found.0 found.1 in
      let holds : holds_table circuit (traced_ble arch at.0.laid at.0.ble) table ≡ true = ap (λ element. holds_table circuit element table) at.1 ∙ found.2 in
      (at.0, holds, λ net is. received at.0 net (receives_all (traced_ble arch at.0.laid at.0.ble) table.inputs net (reads_table (traced_ble arch at.0.laid at.0.ble) table holds) is))

  -- what a BLE that holds a latch is
  latch_parts : (element : LogicElement) (latch : Latch) → Contains circuit.latches latch → holds_latch circuit element latch ≡ true →
      (Contains element.inputs latch.input ⊎ ((table : LookupTable) × (table.output ≡ latch.input) × (holds_table circuit element table ≡ true))) × (element.clock ≡ latch.control)
  latch_parts element latch in' holds = by (is_latch element latch) refl
    where
      by : (b : Bool) → is_latch element latch ≡ b → (Contains element.inputs latch.input ⊎ ((table : LookupTable) × (table.output ≡ latch.input) × (holds_table circuit element table ≡ true))) × (element.clock ≡ latch.control)
      by true is =
          let r : receives element (latch.input ∷ []) ≡ true = grind (arith, is) in
          let c : is_same_net element.clock latch.control ≡ true = grind (arith, is) in
          (inl (receives_all element (latch.input ∷ []) latch.input r (grind (arith, nat_tests))), same_net element.clock latch.control c)
      by false is =
          let pair = from_any (λ table. is_pair circuit element table latch) circuit.tables (sym (ap (λ (b : Bool). b || list_any (λ table. is_pair circuit element table latch) circuit.tables) is) ∙ holds) in
          let table = pair.0 in
          let both : is_pair circuit element table latch ≡ true = pair.2 in
          let input : (latch.input == table.output) ≡ true = grind (arith, both) in
          let c : is_same_net element.clock latch.control ≡ true = grind (arith, both) in
          let any : list_any (is_pair circuit element table) circuit.latches ≡ true = to_any (is_pair circuit element table) circuit.latches latch in' both in
          (inr (table, sym (eqb-true latch.input table.output input), grind (arith, any)), same_net element.clock latch.control c)

  latches_connected : (latch : Latch) → Contains circuit.latches latch →
      (spot : Spot layout) × (holds_latch circuit (traced_ble arch spot.laid spot.ble) latch ≡ true)
      × (Receives circuit arch strip layout spot latch.input ⊎ ((table : LookupTable) × (table.output ≡ latch.input) × (holds_table circuit (traced_ble arch spot.laid spot.ble) table ≡ true)))
      × ((net : ℕ) → latch.control ≡ Some net → ComesTo circuit arch strip layout spot.laid net)
  latches_connected latch c =
      let once = All-contains (λ latch. count_by (λ element. holds_latch circuit element latch) (traced_bles arch layout) ≡ 1) circuit.latches latch h.held.latches c in
      let found = from_any (λ element. holds_latch circuit element latch) (traced_bles arch layout) (counted (λ element. holds_latch circuit element latch) (traced_bles arch layout) once) in
      let at = spotted found.0 found.1 in
      let element = traced_ble arch at.0.laid at.0.ble in
      let holds : holds_latch circuit element latch ≡ true = ap (λ element. holds_latch circuit element latch) at.1 ∙ found.2 in
      let parts = latch_parts element latch c holds in
      (at.0, holds, elim parts.0 [ inl e ↦ inl (received at.0 latch.input e) | inr e ↦ inr e ], λ net is. clocked at.0 net (parts.1 ∙ is))

  outputs_connected : (net : ℕ) → Contains circuit.outputs net → (laid : LaidBlock) × Contains layout.blocks laid × (laid.block ≡ OutputPad net) × ComesTo circuit arch strip layout laid net
  outputs_connected net c =
      let found = from_flat_map (λ (laid : LaidBlock). output_at laid.block) layout.blocks net (subst (λ nets. Contains nets net) (sym h.outputs) c) in
      let laid = found.0 in
      let pad = is_output laid.block net found.2 in
      let same : (net == net) ≡ true = grind (arith, nat_tests) in
      (laid, found.1, pad, came laid net found.1 (ap (wants_as arch net laid) pad ∙ same))

-- the statement
pub connects : (circuit : Circuit) (arch : Arch) (strip : Strip) (layout : Layout) → Implements circuit arch strip layout → Connects circuit arch strip layout
connects circuit arch strip layout h = grind (arith, tables_connected, latches_connected, outputs_connected)
