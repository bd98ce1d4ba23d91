-- A configuration names only what is of its strip.
use Rattle.configuration.proofs.Prelude.{◌≡◌, ℕ, ◌+◌, ◌≤◌, Bool, true, ◌==◌, List, [], ◌∷◌, find, length, map, Option, Some, None, option_and_then, option_map, sym, ap, refl, ◌∙◌, inl, inr, subst, arith, Contains, option_map_or, All-contains, same_Some, JoinedLine, IsWithin, Arch, Input, Circuit, kind_of, Block, InputPad, OutputPad, Cluster, Strip, Pad, places_of, IsStripSize, all_within, Feed, Pin, Ble, Implements, ble_places, LaidBlock, LaidNet, Layout, on_pin, from_get, from_map, in_cases, in_none, pairs_of, is_same_node, sink_at, same_node, Node, Ipin, is_node, node_at_offset, make_node, BlePlace, ConfigurationLine, Driver, FromBle, FromGlobal, FromPin, PadAt, BleAt, Signal, ble_at, paths_of, pin_in, configuration_of, global_number, signal_for, signal_of, BleNamed, IsThingOf, NameOnly, NodeNamed, PadNamed, ShareNothing, Thing, driver_thing, moved_ble, moved_line, moved_pad, signal_things, things_of, HoldsDriver}
use Rattle.configuration.proofs.Branches.{ipin_to_sink, joined, pair_nodes}
use Rattle.configuration.proofs.EachLine.{EachKind, Element, of_each}
use Rattle.configuration.proofs.Found.{found_is}
use Rattle.configuration.proofs.NetDrivers.{driver_held}
use Rattle.configuration.proofs.OneDriver.{route_with}
use Rattle.configuration.proofs.Spots.{placed_in, together}
use Rattle.configuration.proofs.Wiring.{a_cluster, same_made}

in_one : {X : Type 0} (x y : X) → Contains (x ∷ []) y → x ≡ y
in_one x y c = elim (in_cases x y [] c) [ inl e ↦ e | inr d ↦ absurd (in_none y d) ]

module _ (lines : List JoinedLine) (circuit : Circuit) (arch : Arch) (strip : Strip) (layout : Layout) (size : IsStripSize strip) (h : Implements circuit arch strip layout) where
  placed_of : (laid : LaidBlock) → Contains layout.blocks laid → Contains (places_of strip (kind_of laid.block)) laid.place
  placed_of laid there = All-contains (λ (laid : LaidBlock). Contains (places_of strip (kind_of laid.block)) laid.place) layout.blocks laid h.placed there

  in_rows : (laid : LaidBlock) (number : ℕ) → Contains layout.blocks laid → laid.block ≡ Cluster number → IsWithin 1 laid.place.x strip.width × IsWithin 1 laid.place.y strip.rows
  in_rows laid number there is = grind (arith, placed_in strip laid size (placed_of laid there))

  -- the pin by which a net's tree comes to a block
  pin_there : (laid : LaidBlock) (net : ℕ) (pin : Node) → pin_in layout laid net ≡ Some pin → is_node arch strip (make_node laid.place.x Ipin laid.place.y pin.n) ≡ true
  pin_there laid net pin is = by (find (λ (between : LaidNet). between.net == net) layout.nets) refl (find edge_test (pairs_of (paths_of layout net))) refl is
    where
      edge_test : Node × Node → Bool
      edge_test edge = is_same_node edge.1 (sink_at laid.block laid.place)

      inside : (between : LaidNet) → Contains layout.nets between → (a b : Node) → Contains (pairs_of between.paths) (a, b) → b ≡ sink_at laid.block laid.place → a ≡ pin → is_node arch strip (make_node laid.place.x Ipin laid.place.y pin.n) ≡ true
      inside between there a b c sink same =
          let r = route_with lines circuit arch strip layout h between b there (pair_nodes between.paths a b c).1 in
          let edge = r.route.is_tree.edges a b c in
          let ends = ipin_to_sink arch strip a b edge (ap (λ (n : Node). n.kind) sink) in
          let near = together strip a b ends.1 in
          let made : a ≡ make_node laid.place.x Ipin laid.place.y pin.n = same_made (near.x ∙ ap (λ (n : Node). n.x) sink) ends.0 (near.y ∙ ap (λ (n : Node). n.y) sink) (ap (λ (n : Node). n.n) same) in
          sym (ap (is_node arch strip) made) ∙ (joined arch strip a b edge).from

      by : (o : Option LaidNet) → find (λ (between : LaidNet). between.net == net) layout.nets ≡ o → (edge : Option (Node × Node)) → find edge_test (pairs_of (paths_of layout net)) ≡ edge →
          option_map (λ (edge : Node × Node). edge.0) edge ≡ Some pin → is_node arch strip (make_node laid.place.x Ipin laid.place.y pin.n) ≡ true
      by o found None none e = absurd cc
      by None found (Some edge) some e =
          let empty : paths_of layout net ≡ [] = ap (λ (o : Option LaidNet). option_map_or (λ (between : LaidNet). between.paths) o []) found in
          let f = found_is edge_test (pairs_of (paths_of layout net)) edge some in
          absurd (in_none edge (subst (λ paths. Contains (pairs_of paths) edge) empty f.0))
      by (Some between) found (Some edge) some e =
          let paths : paths_of layout net ≡ between.paths = ap (λ (o : Option LaidNet). option_map_or (λ (between : LaidNet). between.paths) o []) found in
          let f = found_is edge_test (pairs_of (paths_of layout net)) edge some in
          inside between (found_is (λ (between : LaidNet). between.net == net) layout.nets between found).0 edge.0 edge.1 (subst (λ paths. Contains (pairs_of paths) edge) paths f.0)
          (same_node edge.1 (sink_at laid.block laid.place) f.1) (same_Some edge.0 pin e)

  signal_there : (e : Element layout) (feed : Feed) (signal : Signal) → signal_for arch layout e.laid feed ≡ Some signal → (thing : Thing) → Contains (signal_things (ble_at arch layout e.laid e.index) signal) thing → IsThingOf arch strip thing
  signal_there e (Ble index) signal is thing c =
      let same : FromBle (ble_at arch layout e.laid index).n ≡ signal = same_Some (FromBle (ble_at arch layout e.laid index).n) signal is in
      let d = subst (λ signal. Contains (signal_things (ble_at arch layout e.laid e.index) signal) thing) (sym same) c in
      subst (IsThingOf arch strip) (in_one (BleNamed (record { x = e.laid.place.x; y = e.laid.place.y; n = (ble_at arch layout e.laid index).n })) thing d) (in_rows e.laid e.number e.there e.is)
  signal_there e (Pin pin) signal is thing c = by_pin (on_pin arch e.laid Input pin) is
    where
      by_in : (net : ℕ) (o : Option Node) → pin_in layout e.laid net ≡ o → option_map (λ (pin : Node). FromPin pin.n) o ≡ Some signal → IsThingOf arch strip thing
      by_in net None none e = absurd cc
      by_in net (Some node) some is =
          let d = subst (λ signal. Contains (signal_things (ble_at arch layout e.laid e.index) signal) thing) (sym (same_Some (FromPin node.n) signal is)) c in
          subst (IsThingOf arch strip) (in_one (NodeNamed (make_node e.laid.place.x Ipin e.laid.place.y node.n)) thing d) (pin_there e.laid net node some)

      by_net : (net : ℕ) (o : Option ℕ) → option_map_or (λ number. Some (FromGlobal number)) o (option_map (λ (pin : Node). FromPin pin.n) (pin_in layout e.laid net)) ≡ Some signal → IsThingOf arch strip thing
      by_net net (Some number) is =
          absurd (in_none thing (subst (λ signal. Contains (signal_things (ble_at arch layout e.laid e.index) signal) thing) (sym (same_Some (FromGlobal number) signal is)) c))
      by_net net None is = by_in net (pin_in layout e.laid net) refl is

      by_pin : (o : Option ℕ) → option_and_then (signal_of layout e.laid) o ≡ Some signal → IsThingOf arch strip thing
      by_pin None e = absurd cc
      by_pin (Some net) is = by_net net (global_number layout net) is

  driver_there : (net : ℕ) (driver : Driver) → HoldsDriver arch layout net driver → IsThingOf arch strip (driver_thing driver)
  driver_there net (PadAt place) (laid, there, is, at) = grind (arith, placed_of, placed_of laid there)
  driver_there net (BleAt place) (spot, name, at) =
      let few = All-contains (λ (laid : LaidBlock). length laid.bles ≤ ble_places arch laid.block) layout.blocks spot.laid h.few_bles spot.there in
      let some = (from_get spot.laid.bles spot.index spot.ble spot.is).0 in
      let q = a_cluster arch spot.laid.block (omega (arith, few, some)) in
      subst (λ (place : BlePlace). IsWithin 1 place.x strip.width × IsWithin 1 place.y strip.rows) at (in_rows spot.laid q.0 spot.there q.1)

  abbrev IsOwn : ConfigurationLine → Type 0
  IsOwn line = (thing : Thing) → Contains (things_of line) thing → IsThingOf arch strip thing

  own_ble : (e : Element layout) (thing : Thing) → BleNamed (ble_at arch layout e.laid e.index) ≡ thing → IsThingOf arch strip thing
  own_ble e thing same = subst (IsThingOf arch strip) same (in_rows e.laid e.number e.there e.is)

  own_pad : (laid : LaidBlock) (block : Block) → kind_of block ≡ Pad → Contains layout.blocks laid → laid.block ≡ block → (thing : Thing) → PadNamed laid.place ≡ thing → IsThingOf arch strip thing
  own_pad laid block pad there is thing same = grind (arith, placed_of laid there)

  each_own : EachKind lines circuit arch strip layout IsOwn
  each_own = record {
    device = λ thing c. absurd (in_none thing c);
    pad_in = λ laid net there is thing c. own_pad laid (InputPad net) refl there is thing (in_one (PadNamed laid.place) thing c);
    pad_out = λ laid net there is thing c. own_pad laid (OutputPad net) refl there is thing (in_one (PadNamed laid.place) thing c);
    used = λ e thing c. own_ble e thing (in_one (BleNamed (ble_at arch layout e.laid e.index)) thing c);
    takes = λ e j feed signal at is thing c. elim (in_cases (BleNamed (ble_at arch layout e.laid e.index)) thing (signal_things (ble_at arch layout e.laid e.index) signal) c) [
      | inl same ↦ own_ble e thing same
      | inr d ↦ signal_there e feed signal is thing d
    ];
    values = λ e thing c. own_ble e thing (in_one (BleNamed (ble_at arch layout e.laid e.index)) thing c);
    stores = λ e type init thing c. own_ble e thing (in_one (BleNamed (ble_at arch layout e.laid e.index)) thing c);
    feeds = λ k net driver at is thing c. subst (IsThingOf arch strip) (in_one (driver_thing driver) thing c) (driver_there net driver (driver_held arch layout net driver is));
    switch = λ between a b there pair is thing c.
        let r = route_with lines circuit arch strip layout h between b there (pair_nodes between.paths a b pair).1 in
        let j = joined arch strip a b (r.route.is_tree.edges a b pair) in
        elim (in_cases (NodeNamed a) thing (NodeNamed b ∷ []) c) [
          | inl same ↦ subst (IsThingOf arch strip) same j.from
          | inr d ↦ subst (IsThingOf arch strip) (in_one (NodeNamed b) thing d) j.to
        ];
  }

  pub name_only : NameOnly arch strip (configuration_of lines circuit arch strip layout)
  name_only = of_each lines circuit arch strip layout IsOwn each_own

-- ---- columns

column_of : Thing → ℕ
column_of (NodeNamed node) = node.x
column_of (PadNamed place) = place.x
column_of (BleNamed place) = place.x

moved_thing : ℕ → Thing → Thing
moved_thing columns (NodeNamed node) = NodeNamed (node_at_offset columns node)
moved_thing columns (PadNamed place) = PadNamed (moved_pad columns place)
moved_thing columns (BleNamed place) = BleNamed (moved_ble columns place)

moved_column : (columns : ℕ) (thing : Thing) → column_of (moved_thing columns thing) ≡ column_of thing + columns
unfolding column_of moved_thing
moved_column columns thing = grind arith

few_columns : (arch : Arch) (strip : Strip) → IsStripSize strip → (thing : Thing) → IsThingOf arch strip thing → column_of thing ≤ strip.width
unfolding column_of
few_columns arch strip size thing is = grind (arith, all_within)

moved_things : (columns : ℕ) (line : ConfigurationLine) → things_of (moved_line columns line) ≡ map (moved_thing columns) (things_of line)
unfolding moved_thing
moved_things columns line = grind arith

-- where a line's things are on the device
on_device : (arch : Arch) (strip : Strip) (lines : List ConfigurationLine) (offset : ℕ) → IsStripSize strip → NameOnly arch strip lines → (line : ConfigurationLine) → Contains lines line → (thing : Thing) →
    Contains (things_of (moved_line offset line)) thing → (offset ≤ column_of thing) × (column_of thing ≤ offset + strip.width)
on_device arch strip lines offset size own line there thing c =
    let q = from_map (moved_thing offset) (things_of line) thing (subst (λ things. Contains things thing) (moved_things offset line) c) in
    let few = few_columns arch strip size q.0 (own line there q.0 q.1) in
    let column : column_of q.0 + offset ≡ column_of thing = sym (moved_column offset q.0) ∙ ap column_of q.2 in
    (omega (arith, few, column), omega (arith, few, column))

pub are_apart : (lines others : List JoinedLine) (circuit other_circuit : Circuit) (arch other_arch : Arch) (strip other_strip : Strip) (layout other_layout : Layout) (offset other_offset : ℕ) → IsStripSize strip → IsStripSize other_strip →
    Implements circuit arch strip layout → Implements other_circuit other_arch other_strip other_layout → offset + strip.width + 1 ≤ other_offset →
    ShareNothing offset (configuration_of lines circuit arch strip layout) other_offset (configuration_of others other_circuit other_arch other_strip other_layout)
are_apart lines others circuit other_circuit arch other_arch strip other_strip layout other_layout offset other_offset size other_size h other_h before =
    λ line other c d thing e f.
    let mine = on_device arch strip (configuration_of lines circuit arch strip layout) offset size (name_only lines circuit arch strip layout size h) line c thing e in
    let its = on_device other_arch other_strip (configuration_of others other_circuit other_arch other_strip other_layout) other_offset other_size (name_only others other_circuit other_arch other_strip other_layout other_size other_h) other d thing f in
    let high = mine.1 in
    let low = its.0 in
    omega (arith, high, low, before)
