-- Lines that a configuration has.
use Rattle.configuration.proofs.Prelude.{◌≡◌, ℕ, Bool, true, false, List, [], ◌∷◌, ◌++◌, cond, filter, map, Some, slice_get, sym, refl, ◌∙◌, inl, inr, ◌⊎◌, subst, arith, Contains, codes, is_some, enumerate_from, flat_map, list_any, option_to_list, and_parts, JoinedLine, Arch, Circuit, Latch, Cluster, Strip, Feed, LaidBle, LaidBlock, LaidNet, Layout, pairs_of, Node, from_any, from_append, in_cases, in_first, in_later, in_none, one_only, to_append_left, to_append_right, to_filter, to_flat_map, to_map, args_at, init_in, type_in, BlePlace, ConfigurationLine, Device, Driver, Feeds, Signal, Stores, Switch, Takes, Used, Values, switch_in, switches_of, ble_at, ble_lines, block_lines, block_lines_as, configuration_of, control_in, driver_of_net, each_once, global_lines, input_lines, is_same_edge, is_switch, latch_driving, latch_lines, signal_for, switch_lines, values_in}
use Rattle.configuration.proofs.Found.{indexed}

-- ---- edges, each once

same_edge : (edge other : Node × Node) → is_same_edge edge other ≡ true → edge ≡ other
same_edge edge other h = search (and_parts, arith)

once_kept : (seen edges : List (Node × Node)) (edge : Node × Node) → Contains edges edge → Contains (each_once seen edges) edge ⊎ Contains seen edge
once_kept seen [] edge c = absurd (in_none edge c)
once_kept seen (first ∷ edges) edge c = by (list_any (is_same_edge first) seen) refl (once_kept seen edges edge) (once_kept (seen ++ first ∷ []) edges edge) (in_cases first edge edges c)
  where
    in_seen : (first ≡ edge) → list_any (is_same_edge first) seen ≡ true → Contains seen edge
    in_seen e any = let q = from_any (is_same_edge first) seen any in subst (λ x. Contains seen x) (sym (same_edge first q.0 q.2) ∙ e) q.1

    after : Contains (seen ++ first ∷ []) edge → Contains (first ∷ each_once (seen ++ first ∷ []) edges) edge ⊎ Contains seen edge
    after c = elim (from_append seen (first ∷ []) edge c) [
      | inl d ↦ inr d
      | inr d ↦ elim (in_cases first edge [] d) [
        | inl e ↦ inl (subst (λ x. Contains (first ∷ each_once (seen ++ first ∷ []) edges) x) e (in_first first (each_once (seen ++ first ∷ []) edges)))
        | inr n ↦ absurd (in_none edge n)
      ]
    ]

    by : (b : Bool) → list_any (is_same_edge first) seen ≡ b → (Contains edges edge → Contains (each_once seen edges) edge ⊎ Contains seen edge) →
        (Contains edges edge → Contains (each_once (seen ++ first ∷ []) edges) edge ⊎ Contains (seen ++ first ∷ []) edge) → (first ≡ edge) ⊎ Contains edges edge →
        Contains (cond b (each_once seen edges) (first ∷ each_once (seen ++ first ∷ []) edges)) edge ⊎ Contains seen edge
    by true any rest more (inl e) = inr (in_seen e any)
    by true any rest more (inr d) = rest d
    by false any rest more (inl e) = inl (subst (λ x. Contains (first ∷ each_once (seen ++ first ∷ []) edges) x) e (in_first first (each_once (seen ++ first ∷ []) edges)))
    by false any rest more (inr d) = elim (more d) [
      | inl l ↦ inl (in_later first edge (each_once (seen ++ first ∷ []) edges) l)
      | inr s ↦ after s
    ]

-- ---- members

module _ (lines : List JoinedLine) (circuit : Circuit) (arch : Arch) (strip : Strip) (layout : Layout) where
  abbrev blocks_part : List ConfigurationLine
  blocks_part = flat_map (block_lines lines circuit arch layout) layout.blocks

  abbrev last_parts : List ConfigurationLine
  last_parts = global_lines arch layout ++ flat_map switch_lines layout.nets

  abbrev head : ConfigurationLine
  head = Device strip.width strip.rows arch.tracks arch.lut_size

  pub has_block_line : (laid : LaidBlock) (line : ConfigurationLine) → Contains layout.blocks laid → Contains (block_lines lines circuit arch layout laid) line → Contains (configuration_of lines circuit arch strip layout) line
  unfolding configuration_of
  has_block_line laid line there c = search (in_later, to_append_left, to_flat_map, arith)

  pub has_global_line : (k net : ℕ) (driver : Driver) → slice_get layout.globals k ≡ Some net → driver_of_net arch layout net ≡ Some driver → Contains (configuration_of lines circuit arch strip layout) (Feeds k driver)
  unfolding configuration_of
  has_global_line k net driver at is =
      let each = λ (net : ℕ × ℕ). map (Feeds net.0) (option_to_list (driver_of_net arch layout net.1)) in
      in_later head (Feeds k driver) (blocks_part ++ last_parts) (to_append_right blocks_part last_parts (Feeds k driver) (to_append_left (global_lines arch layout) (flat_map switch_lines layout.nets) (Feeds k driver)
      (to_flat_map each (enumerate_from 0 layout.globals) (k, net) (Feeds k driver) (indexed layout.globals k net at) (to_map (Feeds k) (option_to_list (driver_of_net arch layout net)) driver (one_only (driver_of_net arch layout net) driver is)))))

  pub has_switch : (between : LaidNet) → Contains layout.nets between → (a b : Node) → Contains (pairs_of between.paths) (a, b) → is_switch (a, b) ≡ true → Contains (switches_of (configuration_of lines circuit arch strip layout)) (a, b)
  unfolding configuration_of
  has_switch between there a b c is =
      let kept = filter is_switch (pairs_of between.paths) in
      let once : Contains (each_once [] kept) (a, b) = elim (once_kept [] kept (a, b) (to_filter is_switch (pairs_of between.paths) (a, b) c is)) [ inl l ↦ l | inr n ↦ absurd (in_none (a, b) n) ] in
      let whole = configuration_of lines circuit arch strip layout in
      to_flat_map switch_in whole (Switch a b) (a, b)
      (in_later head (Switch a b) (blocks_part ++ last_parts) (to_append_right blocks_part last_parts (Switch a b) (to_append_right (global_lines arch layout) (flat_map switch_lines layout.nets) (Switch a b)
      (to_flat_map switch_lines layout.nets between (Switch a b) there (to_map (λ (edge : Node × Node). Switch edge.0 edge.1) (each_once [] kept) (a, b) once)))))
      (in_first (a, b) [])

  -- the lines of a BLE
  pub has_ble_line : (laid : LaidBlock) (number : ℕ) → laid.block ≡ Cluster number → Contains layout.blocks laid → (index : ℕ) (ble : LaidBle) → slice_get laid.bles index ≡ Some ble → (line : ConfigurationLine) →
      Contains (ble_lines lines circuit arch layout laid (ble_at arch layout laid index) ble) line → Contains (configuration_of lines circuit arch strip layout) line
  has_ble_line laid number is there index ble at line c =
      let each = λ (ble : ℕ × LaidBle). ble_lines lines circuit arch layout laid (ble_at arch layout laid ble.0) ble.1 in
      has_block_line laid line there (subst (λ block. Contains (block_lines_as lines circuit arch layout laid block) line) (sym is)
      (to_flat_map each (enumerate_from 0 laid.bles) (index, ble) line (indexed laid.bles index ble at) c))

  pub has_used : (laid : LaidBlock) (place : BlePlace) (ble : LaidBle) → Contains (ble_lines lines circuit arch layout laid place ble) (Used place)
  has_used laid place ble = in_first (Used place) (input_lines arch layout laid place ble ++ Values place (values_in lines circuit arch laid ble) ∷ latch_lines lines circuit arch layout laid place ble)

  pub has_input : (laid : LaidBlock) (place : BlePlace) (ble : LaidBle) (j : ℕ) (feed : Feed) (signal : Signal) → slice_get ble.inputs j ≡ Some feed → signal_for arch layout laid feed ≡ Some signal →
      Contains (ble_lines lines circuit arch layout laid place ble) (Takes place j signal)
  has_input laid place ble j feed signal at is =
      let each = λ (feed : ℕ × Feed). map (Takes place feed.0) (option_to_list (signal_for arch layout laid feed.1)) in
      let rest = Values place (values_in lines circuit arch laid ble) ∷ latch_lines lines circuit arch layout laid place ble in
      in_later (Used place) (Takes place j signal) (input_lines arch layout laid place ble ++ rest) (to_append_left (input_lines arch layout laid place ble) rest (Takes place j signal)
      (to_flat_map each (enumerate_from 0 ble.inputs) (j, feed) (Takes place j signal) (indexed ble.inputs j feed at) (to_map (Takes place j) (option_to_list (signal_for arch layout laid feed)) signal (one_only (signal_for arch layout laid feed) signal is))))

  pub has_latch : (laid : LaidBlock) (place : BlePlace) (ble : LaidBle) (latch : Latch) → latch_driving circuit ble.name ≡ Some latch →
      Contains (ble_lines lines circuit arch layout laid place ble) (Stores place (cond (is_some latch.control) (type_in (args_at lines latch.line)) (codes "none")) (init_in (args_at lines latch.line)) (control_in arch layout laid ble))
  has_latch laid place ble latch is = grind (arith, in_later, to_append_right)

  pub has_values : (laid : LaidBlock) (place : BlePlace) (ble : LaidBle) → Contains (ble_lines lines circuit arch layout laid place ble) (Values place (values_in lines circuit arch laid ble))
  has_values laid place ble = grind (arith, in_later, to_append_right)
