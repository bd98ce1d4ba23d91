-- Walked back, the configuration of a layout that implements a circuit connects it.
use Rattle.configuration.proofs.Prelude.{◌≡◌, ℕ, suc, zero, ◌<◌, Bool, true, false, ◌||◌, ◌==◌, not, List, [], ◌∷◌, ◌++◌, cond, filter, map, Option, Some, None, slice_get, option_and_then, option_map, sym, ap, refl, ◌∙◌, subst, arith, All, Contains, codes, is_some, flat_map, prefix_len, option_map_or, option_to_list, eqb-true, false≢true, nat_tests, All-contains, same_Some, JoinedLine, Arch, Input, Clock, Circuit, Latch, has, kind_of, Block, OutputPad, Cluster, is_global, Strip, places_of, IsPlaceIn, IsStripSize, IsRoute, IsRouted, pairs_of, sink_at, source_at, Node, NodeKind, Ipin, is_block_row, is_together, make_node, Feed, Pin, Ble, Implements, IsLaid, ble_places, drives, has_on, sinks_of, wants, wants_as, IsFed, LaidBle, LaidBlock, LaidNet, Layout, input_net, on_pin, traced_ble, has_pin, from_get, from_has, from_map, in_first, in_later, one_only, to_any, to_filter, to_flat_map, to_has, to_map, args_at, init_in, type_in, BlePlace, ConfigurationLine, Driver, Feeds, FromBle, FromGlobal, FromPin, BleAt, PadOut, Stores, Takes, Used, switches_of, ble_at, node_after, node_before, paths_of, pin_in, pin_out, ble_lines, block_lines_as, configuration_of, control_in, global_number, signal_for, signal_of, LeadsBack, driver_at, HoldsDriver, IsClockedBy, Shows, Spot, TakesAt, place_of_spot}
use Rattle.std.specs.Prelude.{find}
use Rattle.configuration.proofs.Found.{find_one, found_is}
use Rattle.configuration.proofs.Branches.{branch, ipin_to_sink, source_to_opin}
use Rattle.configuration.proofs.Spots.{placed_in, together}
use Rattle.configuration.proofs.NetDrivers.{fabric_driver, global_driver}
use Rattle.configuration.proofs.Members.{has_ble_line, has_block_line, has_global_line, has_input, has_latch, has_switch, has_used}

-- the entry of a net that is wanted somewhere
record Entry (circuit : Circuit) (arch : Arch) (strip : Strip) (layout : Layout) (net : ℕ) : Type 0 where
  between : LaidNet
  found : find (λ (between : LaidNet). between.net == net) layout.nets ≡ Some between
  there : Contains layout.nets between
  same : between.net ≡ net
  laid : IsLaid circuit arch strip layout between

-- a number's place among others
number_there : (nets : List ℕ) (net : ℕ) → has nets net ≡ true → slice_get nets (prefix_len (λ other. not (other == net)) nets) ≡ Some net
number_there [] net h = absurd (false≢true h)
number_there (first ∷ nets) net h = grind (arith, number_there nets net)

is_route : (arch : Arch) (strip : Strip) (source sink : Node) (sinks : List Node) (paths : List (List Node)) → Contains sinks sink → IsRouted arch strip source sinks paths → IsRoute arch strip source sinks paths
is_route arch strip source sink sinks paths c routed = search arith

pub same_made : {node : Node} {x y n : ℕ} {kind : NodeKind} → node.x ≡ x → node.kind ≡ kind → node.y ≡ y → node.n ≡ n → node ≡ make_node x kind y n
same_made p q r s = grind arith

wanted_in : (arch : Arch) (laid : LaidBlock) (net : ℕ) (block : Block) → 0 < ble_places arch block → (has_on arch laid Input net || has_on arch laid Clock net) ≡ true → wants_as arch net laid block ≡ true
wanted_in arch laid net block places h = grind arith

pub a_cluster : (arch : Arch) (block : Block) → 0 < ble_places arch block → (number : ℕ) × (block ≡ Cluster number)
a_cluster arch block places = grind arith

module _ (lines : List JoinedLine) (circuit : Circuit) (arch : Arch) (strip : Strip) (layout : Layout) (size : IsStripSize strip) (h : Implements circuit arch strip layout) where
  abbrev whole : List ConfigurationLine
  whole = configuration_of lines circuit arch strip layout

  entry : (laid : LaidBlock) (net : ℕ) → Contains layout.blocks laid → wants arch net laid ≡ true → Entry circuit arch strip layout net
  entry laid net there wanted =
      let stands : has (map (λ (between : LaidNet). between.net) layout.nets) net ≡ true = All-contains (λ laid. (net : ℕ) → wants arch net laid ≡ true → has (map (λ (between : LaidNet). between.net) layout.nets) net ≡ true) layout.blocks laid h.all there net wanted in
      let m = from_map (λ (between : LaidNet). between.net) layout.nets net (from_has (map (λ (between : LaidNet). between.net) layout.nets) net stands) in
      let is = m.2 in
      let q = find_one (λ (between : LaidNet). between.net == net) layout.nets (to_any (λ (between : LaidNet). between.net == net) layout.nets m.0 m.1 (grind (arith, nat_tests, is))) in
      let f = found_is (λ (between : LaidNet). between.net == net) layout.nets q.0 q.1 in
      record { between = q.0; found = q.1; there = f.0; same = eqb-true q.0.net net f.1; laid = All-contains (IsLaid circuit arch strip layout) layout.nets q.0 h.laid f.0 }

  at_place : (laid : LaidBlock) → Contains layout.blocks laid → IsPlaceIn strip (kind_of laid.block) laid.place
  at_place laid there = placed_in strip laid size (All-contains (λ (laid : LaidBlock). Contains (places_of strip (kind_of laid.block)) laid.place) layout.blocks laid h.placed there)

  -- a global net's number has a line with what drives the net
  record Fed (net number : ℕ) : Type 0 where
    driver : Driver
    line : Contains (configuration_of lines circuit arch strip layout) (Feeds number driver)
    held : HoldsDriver arch layout net driver

  fed_globally : (laid : LaidBlock) (net number : ℕ) → Contains layout.blocks laid → wants arch net laid ≡ true → global_number layout net ≡ Some number → Fed net number
  fed_globally laid net number there wanted is = by (has layout.globals net) refl is
    where
      e : Entry circuit arch strip layout net
      e = entry laid net there wanted

      by : (b : Bool) → has layout.globals net ≡ b → cond b (Some (prefix_len (λ other. not (other == net)) layout.globals)) None ≡ Some number → Fed net number
      by false not_in is = absurd cc
      by true in' is =
          let d = global_driver arch layout net e.laid.block (from_get layout.blocks e.laid.driver e.laid.block e.laid.there).1 (subst (λ net. drives net e.laid.block ≡ true) e.same e.laid.driven) in
          let at : slice_get layout.globals number ≡ Some net = subst (λ n. slice_get layout.globals n ≡ Some net) (same_Some _ _ is) (number_there layout.globals net in') in
          record { driver = d.0; line = has_global_line lines circuit arch strip layout number net d.0 at d.1; held = d.2 }

  -- a net of the fabric leads over switches to the block
  record Routed (laid : LaidBlock) (net : ℕ) : Type 0 where
    ipin : Node
    in_is : pin_in layout laid net ≡ Some ipin
    kind : ipin.kind ≡ Ipin
    near : is_together strip ipin (sink_at laid.block laid.place) ≡ true
    driver : Driver
    back : LeadsBack arch strip (configuration_of lines circuit arch strip layout) ipin driver
    held : HoldsDriver arch layout net driver

  routed : (laid : LaidBlock) (net : ℕ) → Contains layout.blocks laid → wants arch net laid ≡ true → global_number layout net ≡ None → Routed laid net
  routed laid net there wanted none =
      let drv = e.laid.block in
      let drv_there = (from_get layout.blocks e.laid.driver e.laid.block e.laid.there).1 in
      let paths = e.between.paths in
      let source = source_at drv.block drv.place in
      let sink = sink_at laid.block laid.place in
      let sinks : List Node = map (λ (laid : LaidBlock). sink_at laid.block laid.place) (filter (wants arch net) layout.blocks) in
      let here : IsRouted arch strip source (sinks_of circuit arch layout net) paths = subst (λ net. IsRouted arch strip source (sinks_of circuit arch layout net) paths) e.same e.laid.tree in
      let tree : IsRouted arch strip source sinks paths = subst (λ b. IsRouted arch strip source (cond b [] sinks) paths) on_fabric here in
      let mine : Contains sinks sink = to_map (λ (laid : LaidBlock). sink_at laid.block laid.place) (filter (wants arch net) layout.blocks) laid (to_filter (wants arch net) layout.blocks laid there wanted) in
      let route = is_route arch strip source sink sinks paths mine tree in
      let b = branch arch strip source sink sinks paths (switches_of whole) refl refl (has_switch lines circuit arch strip layout e.between e.there) route mine in
      let paths_are : paths_of layout net ≡ paths = ap (λ (o : Option LaidNet). option_map_or (λ (between : LaidNet). between.paths) o []) e.found in
      let out : pin_out layout drv net ≡ Some b.opin = ap (λ paths. node_after (pairs_of paths) source) paths_are ∙ b.first in
      let first = source_to_opin arch strip source b.opin (route.is_tree.edges source b.opin b.from) refl in
      let last = ipin_to_sink arch strip b.ipin sink (route.is_tree.edges b.ipin sink b.to) refl in
      record {
        ipin = b.ipin;
        in_is = ap (λ paths. node_before (pairs_of paths) sink) paths_are ∙ b.last;
        kind = last.0;
        near = last.1;
        driver = driver_at arch strip b.opin;
        back = record { pin = b.opin; is_output = first.0; way = b.way; leads = b.leads; driven = refl };
        held = fabric_driver arch strip layout net drv drv_there b.opin (at_place drv drv_there) (subst (λ net. drives net drv ≡ true) e.same e.laid.driven) first.1 out;
      }
    where
      e : Entry circuit arch strip layout net
      e = entry laid net there wanted

      on_fabric : is_global circuit net ≡ false
      on_fabric = sym (h.globals net) ∙ by (has layout.globals net) none
        where
          by : (b : Bool) → cond b (Some (prefix_len (λ other. not (other == net)) layout.globals)) None ≡ None → b ≡ false
          by true wrong = absurd cc
          by false is = refl

  -- ---- inputs

  cluster_of : (spot : Spot layout) → (number : ℕ) × (spot.laid.block ≡ Cluster number)
  cluster_of spot = grind (arith, from_get)

  wanted_at : (spot : Spot layout) (net : ℕ) → (has_on arch spot.laid Input net || has_on arch spot.laid Clock net) ≡ true → wants arch net spot.laid ≡ true
  wanted_at spot net on = let q = cluster_of spot in subst (λ block. wants_as arch net spot.laid block ≡ true) (sym q.1) on

  line_of : (spot : Spot layout) (line : ConfigurationLine) → Contains (ble_lines lines circuit arch layout spot.laid (place_of_spot arch layout spot) spot.ble) line → Contains (configuration_of lines circuit arch strip layout) line
  line_of spot line c = let q = cluster_of spot in has_ble_line lines circuit arch strip layout spot.laid q.0 q.1 spot.there spot.index spot.ble spot.is line c

  pub is_used : (spot : Spot layout) → Contains (configuration_of lines circuit arch strip layout) (Used (place_of_spot arch layout spot))
  is_used spot = line_of spot (Used (place_of_spot arch layout spot)) (has_used lines circuit arch strip layout spot.laid (place_of_spot arch layout spot) spot.ble)

  takes : (spot : Spot layout) (j net : ℕ) (feed : Feed) → slice_get spot.ble.inputs j ≡ Some feed → input_net arch spot.laid feed ≡ Some net → TakesAt arch strip layout (configuration_of lines circuit arch strip layout) spot j net
  takes spot j net (Ble index) at is = by (slice_get spot.laid.bles index) refl is
    where
      by : (o : Option LaidBle) → slice_get spot.laid.bles index ≡ o → option_map (λ (ble : LaidBle). ble.name) o ≡ Some net → TakesAt arch strip layout (configuration_of lines circuit arch strip layout) spot j net
      by None none e = absurd cc
      by (Some ble) some e =
          let signal = FromBle (ble_at arch layout spot.laid index).n in
          let place = place_of_spot arch layout spot in
          record {
            signal = signal;
            configured = line_of spot (Takes place j signal) (has_input lines circuit arch strip layout spot.laid place spot.ble j (Ble index) signal at refl);
            driver = BleAt (ble_at arch layout spot.laid index);
            walked = refl;
            held = (record { laid = spot.laid; there = spot.there; index = index; ble = ble; is = some }, same_Some ble.name net e, refl);
          }
  takes spot j net (Pin pin) at is = by (global_number layout net) refl
    where
      place : BlePlace
      place = place_of_spot arch layout spot

      wanted : wants arch net spot.laid ≡ true
      wanted = wanted_at spot net (ap (λ (b : Bool). b || has_on arch spot.laid Clock net) (has_pin arch spot.laid Input pin net is))

      signal_is : signal_for arch layout spot.laid (Pin pin) ≡ signal_of layout spot.laid net
      signal_is = ap (option_and_then (signal_of layout spot.laid)) is

      by : (o : Option ℕ) → global_number layout net ≡ o → TakesAt arch strip layout (configuration_of lines circuit arch strip layout) spot j net
      by (Some number) is_global =
          let f = fed_globally spot.laid net number spot.there wanted is_global in
          let signal : signal_for arch layout spot.laid (Pin pin) ≡ Some (FromGlobal number) =
          signal_is ∙ ap (λ (o : Option ℕ). option_map_or (λ number. Some (FromGlobal number)) o (option_map (λ (pin : Node). FromPin pin.n) (pin_in layout spot.laid net))) is_global in
          record {
            signal = FromGlobal number;
            configured = line_of spot (Takes place j (FromGlobal number)) (has_input lines circuit arch strip layout spot.laid place spot.ble j (Pin pin) (FromGlobal number) at signal);
            driver = f.driver;
            walked = f.line;
            held = f.held;
          }
      by None on_fabric =
          let r = routed spot.laid net spot.there wanted on_fabric in
          let near = together strip r.ipin (sink_at spot.laid.block spot.laid.place) r.near in
          let signal : signal_for arch layout spot.laid (Pin pin) ≡ Some (FromPin r.ipin.n) =
          signal_is ∙ ap (λ (o : Option ℕ). option_map_or (λ number. Some (FromGlobal number)) o (option_map (λ (pin : Node). FromPin pin.n) (pin_in layout spot.laid net))) on_fabric
          ∙ ap (option_map (λ (pin : Node). FromPin pin.n)) r.in_is in
          record {
            signal = FromPin r.ipin.n;
            configured = line_of spot (Takes place j (FromPin r.ipin.n)) (has_input lines circuit arch strip layout spot.laid place spot.ble j (Pin pin) (FromPin r.ipin.n) at signal);
            driver = r.driver;
            walked = subst (λ node. LeadsBack arch strip (configuration_of lines circuit arch strip layout) node r.driver) (same_made near.x r.kind near.y refl) r.back;
            held = r.held;
          }

  -- by the nets that come to the inputs
  fed_at : (laid : LaidBlock) (feeds : List Feed) (j net : ℕ) → ((feed : Feed) → Contains feeds feed → is_some (input_net arch laid feed) ≡ true) →
      slice_get (flat_map (λ feed. option_to_list (input_net arch laid feed)) feeds) j ≡ Some net → (feed : Feed) × (slice_get feeds j ≡ Some feed) × (input_net arch laid feed ≡ Some net)
  fed_at laid [] j net all e = absurd cc
  fed_at laid (feed ∷ feeds) j net all e = by (input_net arch laid feed) refl (all feed (in_first feed feeds)) (λ j. fed_at laid feeds j net (λ f c. all f (in_later feed f feeds c))) j e
    where
      by : (o : Option ℕ) → input_net arch laid feed ≡ o → is_some o ≡ true → ((j : ℕ) → slice_get (flat_map (λ feed. option_to_list (input_net arch laid feed)) feeds) j ≡ Some net → (other : Feed) × (slice_get feeds j ≡ Some other) × (input_net arch laid other ≡ Some net)) →
          (j : ℕ) → slice_get (option_to_list o ++ flat_map (λ feed. option_to_list (input_net arch laid feed)) feeds) j ≡ Some net →
          (other : Feed) × (slice_get (feed ∷ feeds) j ≡ Some other) × (input_net arch laid other ≡ Some net)
      by None is wrong more j e = absurd (false≢true wrong)
      by (Some other) is some more zero e = (feed, refl, is ∙ e)
      by (Some other) is some more (suc j) e = let q = more j e in (q.0, q.1, q.2)

  pub taken : (spot : Spot layout) (j net : ℕ) → slice_get (traced_ble arch spot.laid spot.ble).inputs j ≡ Some net → TakesAt arch strip layout (configuration_of lines circuit arch strip layout) spot j net
  taken spot j net e =
      let here = All-contains (λ (laid : LaidBlock). All (IsFed arch laid) laid.bles) layout.blocks spot.laid h.fed spot.there in
      let mine = All-contains (IsFed arch spot.laid) spot.laid.bles spot.ble here (from_get spot.laid.bles spot.index spot.ble spot.is).1 in
      let q = fed_at spot.laid spot.ble.inputs j net (λ feed c. All-contains (λ (feed : Feed). is_some (input_net arch spot.laid feed) ≡ true) spot.ble.inputs feed mine.inputs c) e in
      takes spot j net q.0 q.1 q.2

  -- ---- clocks and outputs

  global_of : (latch : Latch) (net : ℕ) → Contains circuit.latches latch → latch.control ≡ Some net → (number : ℕ) × (global_number layout net ≡ Some number)
  global_of latch net c is =
      let one : is_global circuit net ≡ true = to_has (flat_map (λ (latch : Latch). option_to_list latch.control) circuit.latches) net
      (to_flat_map (λ (latch : Latch). option_to_list latch.control) circuit.latches latch net c (one_only latch.control net is)) in
      (prefix_len (λ other. not (other == net)) layout.globals, ap (λ (b : Bool). cond b (Some (prefix_len (λ other. not (other == net)) layout.globals)) None) (h.globals net ∙ one))

  pub clocked : (spot : Spot layout) (latch : Latch) (net : ℕ) → Contains circuit.latches latch → latch.control ≡ Some net → (spot.ble.name ≡ latch.output) → (traced_ble arch spot.laid spot.ble).clock ≡ Some net →
      IsClockedBy arch strip layout (configuration_of lines circuit arch strip layout) spot net
  clocked spot latch net c is name clock =
      let g = global_of latch net c is in
      let f = fed_globally spot.laid net g.0 spot.there wanted g.1 in
      let out = latch.output in
      let test = λ (other : Latch). other.output == spot.ble.name in
      let q = find_one test circuit.latches (to_any test circuit.latches latch c (grind (arith, nat_tests, name))) in
      let type = cond (is_some q.0.control) (type_in (args_at lines q.0.line)) (codes "none") in
      let init = init_in (args_at lines q.0.line) in
      let control : control_in arch layout spot.laid spot.ble ≡ Some g.0 = ap (option_and_then (global_number layout)) clock ∙ g.1 in
      let line = has_latch lines circuit arch strip layout spot.laid (place_of_spot arch layout spot) spot.ble q.0 q.1 in
      record {
        type = type;
        init = init;
        number = g.0;
        configured = line_of spot (Stores (place_of_spot arch layout spot) type init (Some g.0))
            (subst (λ control. Contains (ble_lines lines circuit arch layout spot.laid (place_of_spot arch layout spot) spot.ble) (Stores (place_of_spot arch layout spot) type init control)) control line);
        driver = f.driver;
        walked = f.line;
        held = f.held;
      }
    where
      wanted : wants arch net spot.laid ≡ true
      wanted = by spot.ble.clock clock
        where
          by : (o : Option ℕ) → option_and_then (on_pin arch spot.laid Clock) o ≡ Some net → wants arch net spot.laid ≡ true
          by None e = absurd cc
          by (Some pin) e =
              let has : has_on arch spot.laid Clock net ≡ true = has_pin arch spot.laid Clock pin net e in
              wanted_at spot net (grind (arith, has))

  pub shown : (laid : LaidBlock) (net : ℕ) → Contains layout.blocks laid → laid.block ≡ OutputPad net → Shows arch strip layout (configuration_of lines circuit arch strip layout) laid.place net
  shown laid net there is = by (global_number layout net) refl
    where
      wanted : wants arch net laid ≡ true
      wanted = let same : (net == net) ≡ true = grind (arith, nat_tests) in ap (wants_as arch net laid) is ∙ same

      line : Contains (configuration_of lines circuit arch strip layout) (PadOut laid.place (global_number layout net))
      line = has_block_line lines circuit arch strip layout laid (PadOut laid.place (global_number layout net)) there
          (subst (λ block. Contains (block_lines_as lines circuit arch layout laid block) (PadOut laid.place (global_number layout net))) (sym is) (in_first (PadOut laid.place (global_number layout net)) []))

      by : (o : Option ℕ) → global_number layout net ≡ o → Shows arch strip layout (configuration_of lines circuit arch strip layout) laid.place net
      by (Some number) is_global =
          let f = fed_globally laid net number there wanted is_global in
          record { shown = Some number; configured = subst (λ o. Contains (configuration_of lines circuit arch strip layout) (PadOut laid.place o)) is_global line; driver = f.driver; walked = f.line; held = f.held }
      by None on_fabric =
          let r = routed laid net there wanted on_fabric in
          let near = together strip r.ipin (sink_at laid.block laid.place) r.near in
          let row = (subst (λ block. IsPlaceIn strip (kind_of block) laid.place) is (at_place laid there)).row in
          let y = near.y in
          let n = near.n in
          let sink : (sink_at laid.block laid.place).n ≡ laid.place.subblock = ap (λ block. (sink_at block laid.place).n) is in
          let outside : is_block_row strip r.ipin.y ≡ false = grind (arith, nat_tests, row, y) in
          let same : (r.ipin.n == (sink_at laid.block laid.place).n) ≡ true = grind (arith, n, outside) in
          let number : r.ipin.n ≡ laid.place.subblock = eqb-true r.ipin.n (sink_at laid.block laid.place).n same ∙ sink in
          record {
            shown = None;
            configured = subst (λ o. Contains (configuration_of lines circuit arch strip layout) (PadOut laid.place o)) on_fabric line;
            driver = r.driver;
            walked = subst (λ node. LeadsBack arch strip (configuration_of lines circuit arch strip layout) node r.driver) (same_made near.x r.kind near.y number) r.back;
            held = r.held;
          }
