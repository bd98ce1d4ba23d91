-- What holds of each kind of line holds of each line of a configuration.
use Rattle.configuration.proofs.Prelude.{◌≡◌, ℕ, List, [], ◌∷◌, ◌++◌, true, cond, filter, map, Some, slice_get, refl, inl, inr, subst, arith, Contains, codes, is_some, enumerate_from, flat_map, option_to_list, JoinedLine, Arch, Circuit, Latch, Block, InputPad, OutputPad, Cluster, Strip, Feed, LaidBle, LaidBlock, LaidNet, Layout, from_append, from_filter, from_flat_map, from_map, in_cases, in_later, in_none, only_one, pairs_of, Node, args_at, init_in, type_in, BlePlace, ConfigurationLine, Device, Driver, Feeds, PadIn, PadOut, Signal, Stores, Switch, Takes, Used, Values, ble_at, ble_lines, block_lines, block_lines_as, configuration_of, control_in, driver_of_net, each_once, global_lines, global_number, input_lines, is_switch, latch_driving, latch_lines, signal_for, switch_lines, values_in}
use Rattle.configuration.proofs.Found.{index_of}

once_back : (seen edges : List (Node × Node)) (edge : Node × Node) → Contains (each_once seen edges) edge → Contains edges edge
once_back seen [] edge c = c
once_back seen (first ∷ edges) edge c = search (in_later, once_back seen edges edge, once_back (seen ++ first ∷ []) edges edge, arith)

-- a BLE of a layout, with its block's number and its index
pub record Element (layout : Layout) : Type 0 where
  pub laid : LaidBlock
  pub there : Contains layout.blocks laid
  pub number : ℕ
  pub is : laid.block ≡ Cluster number
  pub index : ℕ
  pub ble : LaidBle
  pub at : slice_get laid.bles index ≡ Some ble

-- what holds of each kind of line
pub record EachKind (lines : List JoinedLine) (circuit : Circuit) (arch : Arch) (strip : Strip) (layout : Layout) (P : ConfigurationLine → Type 0) : Type 0 where
  pub device : P (Device strip.width strip.rows arch.tracks arch.lut_size)
  pub pad_in : (laid : LaidBlock) (net : ℕ) → Contains layout.blocks laid → laid.block ≡ InputPad net → P (PadIn laid.place)
  pub pad_out : (laid : LaidBlock) (net : ℕ) → Contains layout.blocks laid → laid.block ≡ OutputPad net → P (PadOut laid.place (global_number layout net))
  pub used : (e : Element layout) → P (Used (ble_at arch layout e.laid e.index))
  pub takes : (e : Element layout) (j : ℕ) (feed : Feed) (signal : Signal) → slice_get e.ble.inputs j ≡ Some feed → signal_for arch layout e.laid feed ≡ Some signal → P (Takes (ble_at arch layout e.laid e.index) j signal)
  pub values : (e : Element layout) → P (Values (ble_at arch layout e.laid e.index) (values_in lines circuit arch e.laid e.ble))
  pub stores : (e : Element layout) (type init : List ℕ) → P (Stores (ble_at arch layout e.laid e.index) type init (control_in arch layout e.laid e.ble))
  pub feeds : (k net : ℕ) (driver : Driver) → slice_get layout.globals k ≡ Some net → driver_of_net arch layout net ≡ Some driver → P (Feeds k driver)
  pub switch : (between : LaidNet) (a b : Node) → Contains layout.nets between → Contains (pairs_of between.paths) (a, b) → is_switch (a, b) ≡ true → P (Switch a b)

module _ (lines : List JoinedLine) (circuit : Circuit) (arch : Arch) (strip : Strip) (layout : Layout) (P : ConfigurationLine → Type 0) (each : EachKind lines circuit arch strip layout P) where
  of_ble : (e : Element layout) (line : ConfigurationLine) → Contains (ble_lines lines circuit arch layout e.laid (ble_at arch layout e.laid e.index) e.ble) line → P line
  of_ble e line c = elim (in_cases (Used place) line (input_lines arch layout e.laid place e.ble ++ values ∷ latches) c) [
    | inl same ↦ subst P same (each.used e)
    | inr d ↦ elim (from_append (input_lines arch layout e.laid place e.ble) (values ∷ latches) line d) [
      | inl i ↦ of_input i
      | inr r ↦ elim (in_cases values line latches r) [
        | inl same ↦ subst P same (each.values e)
        | inr l ↦ of_latch l
      ]
    ]
  ]
    where
      place : BlePlace
      place = ble_at arch layout e.laid e.index

      values : ConfigurationLine
      values = Values (ble_at arch layout e.laid e.index) (values_in lines circuit arch e.laid e.ble)

      latches : List ConfigurationLine
      latches = latch_lines lines circuit arch layout e.laid (ble_at arch layout e.laid e.index) e.ble

      of_input : Contains (input_lines arch layout e.laid (ble_at arch layout e.laid e.index) e.ble) line → P line
      of_input c =
          let make = λ (feed : ℕ × Feed). map (Takes (ble_at arch layout e.laid e.index) feed.0) (option_to_list (signal_for arch layout e.laid feed.1)) in
          let q = from_flat_map make (enumerate_from 0 e.ble.inputs) line c in
          let m = from_map (Takes (ble_at arch layout e.laid e.index) q.0.0) (option_to_list (signal_for arch layout e.laid q.0.1)) line q.2 in
          subst P m.2 (each.takes e q.0.0 q.0.1 m.0 (index_of e.ble.inputs q.0.0 q.0.1 q.1) (only_one (signal_for arch layout e.laid q.0.1) m.0 m.1))

      of_latch : Contains (latch_lines lines circuit arch layout e.laid (ble_at arch layout e.laid e.index) e.ble) line → P line
      of_latch c =
          let make = λ (latch : Latch). Stores (ble_at arch layout e.laid e.index) (cond (is_some latch.control) (type_in (args_at lines latch.line)) (codes "none")) (init_in (args_at lines latch.line)) (control_in arch layout e.laid e.ble) in
          let m = from_map make (option_to_list (latch_driving circuit e.ble.name)) line c in
          subst P m.2 (each.stores e (cond (is_some m.0.control) (type_in (args_at lines m.0.line)) (codes "none")) (init_in (args_at lines m.0.line)))

  in_one : (x y : ConfigurationLine) → Contains (x ∷ []) y → x ≡ y
  in_one x y c = elim (in_cases x y [] c) [ inl e ↦ e | inr d ↦ absurd (in_none y d) ]

  of_block : (laid : LaidBlock) → Contains layout.blocks laid → (line : ConfigurationLine) (block : Block) → laid.block ≡ block → Contains (block_lines_as lines circuit arch layout laid block) line → P line
  of_block laid there line (InputPad net) is c = subst P (in_one (PadIn laid.place) line c) (each.pad_in laid net there is)
  of_block laid there line (OutputPad net) is c = subst P (in_one (PadOut laid.place (global_number layout net)) line c) (each.pad_out laid net there is)
  of_block laid there line (Cluster number) is c =
      let make = λ (ble : ℕ × LaidBle). ble_lines lines circuit arch layout laid (ble_at arch layout laid ble.0) ble.1 in
      let q = from_flat_map make (enumerate_from 0 laid.bles) line c in
      of_ble (record { laid = laid; there = there; number = number; is = is; index = q.0.0; ble = q.0.1; at = index_of laid.bles q.0.0 q.0.1 q.1 }) line q.2

  of_globals : (line : ConfigurationLine) → Contains (global_lines arch layout) line → P line
  of_globals line c =
      let make = λ (net : ℕ × ℕ). map (Feeds net.0) (option_to_list (driver_of_net arch layout net.1)) in
      let q = from_flat_map make (enumerate_from 0 layout.globals) line c in
      let m = from_map (Feeds q.0.0) (option_to_list (driver_of_net arch layout q.0.1)) line q.2 in
      subst P m.2 (each.feeds q.0.0 q.0.1 m.0 (index_of layout.globals q.0.0 q.0.1 q.1) (only_one (driver_of_net arch layout q.0.1) m.0 m.1))

  of_switches : (line : ConfigurationLine) → Contains (flat_map switch_lines layout.nets) line → P line
  of_switches line c =
      let q = from_flat_map switch_lines layout.nets line c in
      let kept = filter is_switch (pairs_of q.0.paths) in
      let m = from_map (λ (edge : Node × Node). Switch edge.0 edge.1) (each_once [] kept) line q.2 in
      let f = from_filter is_switch (pairs_of q.0.paths) m.0 (once_back [] kept m.0 m.1) in
      subst P m.2 (each.switch q.0 m.0.0 m.0.1 q.1 f.0 f.1)

  pub of_each : (line : ConfigurationLine) → Contains (configuration_of lines circuit arch strip layout) line → P line
  unfolding configuration_of
  of_each line c =
      let blocks = flat_map (block_lines lines circuit arch layout) layout.blocks in
      let switches = flat_map switch_lines layout.nets in
      elim (in_cases (Device strip.width strip.rows arch.tracks arch.lut_size) line (blocks ++ (global_lines arch layout ++ switches)) c) [
        | inl same ↦ subst P same each.device
        | inr d ↦ elim (from_append blocks (global_lines arch layout ++ switches) line d) [
          | inl b ↦ (let q = from_flat_map (block_lines lines circuit arch layout) layout.blocks line b in of_block q.0 q.1 line q.0.block refl q.2)
          | inr r ↦ elim (from_append (global_lines arch layout) switches line r) [
            | inl g ↦ of_globals line g
            | inr s ↦ of_switches line s
          ]
        ]
      ]
