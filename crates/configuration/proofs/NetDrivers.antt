-- What drives a net: the pad or BLE to which one comes from its tree, or from a global net.
use Rattle.configuration.proofs.Prelude.{◌≡◌, ℕ, Bool, true, false, ◌&&◌, ◌==◌, List, [], ◌∷◌, cond, filter, take, Some, slice_get, sym, ap, refl, ◌∙◌, inl, inr, subst, arith, Contains, slice_index, is_some, enumerate_from, flat_map, list_any, and_parts, eqb-true, false≢true, nat_tests, Arch, kind_of, Block, InputPad, OutputPad, Cluster, Strip, place_at, IsPlaceIn, source_at, Node, is_pad_row, is_together, drives, drives_as, leaves_as, LaidBle, LaidBlock, Layout, from_any, from_filter, from_flat_map, from_get, from_map, in_cases, in_first, in_none, to_any, to_filter, to_flat_map, to_map, Driver, PadAt, BleAt, ble_at, ble_numbers, output_rank, pin_out, driver_of_net, drivers_as, driver_at, HoldsDriver}
use Rattle.configuration.proofs.Found.{index_of, indexed}
use Rattle.configuration.proofs.Spots.{first_index, routed_number, together}

same_place : {x x' y y' n n' : ℕ} → x ≡ x' → y ≡ y' → n ≡ n' → PadAt (place_at x y n) ≡ PadAt (place_at x' y' n')
same_place p q r = cc

same_spot : {x x' y y' n n' : ℕ} → x ≡ x' → y ≡ y' → n ≡ n' → BleAt (record { x = x; y = y; n = n }) ≡ BleAt (record { x = x'; y = y'; n = n' })
same_spot p q r = cc

-- ---- over the fabric

module _ (arch : Arch) (strip : Strip) (layout : Layout) (net : ℕ) (laid : LaidBlock) (there : Contains layout.blocks laid) (opin : Node) where
  by_block : (block : Block) → laid.block ≡ block → IsPlaceIn strip (kind_of block) laid.place → drives_as net laid block ≡ true → is_together strip (source_at block laid.place) opin ≡ true →
      pin_out layout laid net ≡ Some opin → HoldsDriver arch layout net (driver_at arch strip opin)
  by_block (InputPad input) is at driven h out = search (together, nat_tests, same_place, eqb-true, arith)
  by_block (OutputPad output) is at driven h out = absurd (false≢true driven)
  by_block (Cluster number) is at driven h out =
      let t = together strip (source_at (Cluster number) laid.place) opin h in
      let row = at.row in
      let tx = t.x in
      let ty = t.y in
      let logic : is_pad_row strip opin.y ≡ false = grind (arith, nat_tests, row, ty) in
      let some = from_any (leaves_as net) laid.bles driven in
      let named : (some.0.name == net) ≡ true = (and_parts (some.0.name == net) (is_some some.0.output) some.2).0 in
      let q = first_index (λ (other : LaidBle). other.name == net) laid.bles (to_any (λ (other : LaidBle). other.name == net) laid.bles some.0 some.1 named) in
      let name : q.1.name ≡ net = eqb-true q.1.name net q.3 in
      let number : slice_index (ble_numbers arch layout laid) q.0 ≡ output_rank arch opin.n =
      routed_number arch layout laid q.0 q.1 opin q.2 (ap (λ n. list_any (λ (other : LaidBle). other.name == n) (take q.0 laid.bles)) name ∙ q.4) (ap (pin_out layout laid) name ∙ out) in
      let whole : driver_at arch strip opin ≡ BleAt (ble_at arch layout laid q.0) =
      ap (λ (b : Bool). cond b (PadAt (place_at opin.x opin.y opin.n)) (BleAt (record { x = opin.x; y = opin.y; n = output_rank arch opin.n }))) logic
      ∙ same_spot (sym tx) (sym ty) (sym number) in
      subst (HoldsDriver arch layout net) (sym whole) (record { laid = laid; there = there; index = q.0; ble = q.1; is = q.2 }, name, refl)

  pub fabric_driver : IsPlaceIn strip (kind_of laid.block) laid.place → drives net laid ≡ true → is_together strip (source_at laid.block laid.place) opin ≡ true → pin_out layout laid net ≡ Some opin →
      HoldsDriver arch layout net (driver_at arch strip opin)
  fabric_driver at driven h out = by_block laid.block refl at driven h out

-- ---- over the global network

in_one : {X : Type 0} (x y : X) → Contains (x ∷ []) y → x ≡ y
in_one x y c = elim (in_cases x y [] c) [ inl e ↦ e | inr d ↦ absurd (in_none y d) ]

module _ (arch : Arch) (layout : Layout) (net : ℕ) where
  -- each driver of a block drives the net
  held_as : (laid : LaidBlock) → Contains layout.blocks laid → (driver : Driver) (block : Block) → laid.block ≡ block → Contains (drivers_as arch layout laid net block) driver → HoldsDriver arch layout net driver
  held_as laid there driver (InputPad input) is c = grind (arith, in_one, eqb-true, in_none)
  held_as laid there driver (OutputPad output) is c = absurd (in_none driver c)
  held_as laid there driver (Cluster number) is c =
      let test = λ (ble : ℕ × LaidBle). (ble.1.name == net) && is_some ble.1.output in
      let m = from_map (λ (ble : ℕ × LaidBle). BleAt (ble_at arch layout laid ble.0)) (filter test (enumerate_from 0 laid.bles)) driver c in
      let f = from_filter test (enumerate_from 0 laid.bles) m.0 m.1 in
      let name : m.0.1.name ≡ net = eqb-true m.0.1.name net (and_parts (m.0.1.name == net) (is_some m.0.1.output) f.1).0 in
      subst (HoldsDriver arch layout net) m.2 (record { laid = laid; there = there; index = m.0.0; ble = m.0.1; is = index_of laid.bles m.0.0 m.0.1 f.0 }, name, refl)

  -- a block that drives the net has a driver
  some_as : (laid : LaidBlock) (block : Block) → drives_as net laid block ≡ true → (driver : Driver) × Contains (drivers_as arch layout laid net block) driver
  some_as laid (InputPad input) driven =
      (PadAt laid.place, subst (λ b. Contains (cond b (PadAt laid.place ∷ []) []) (PadAt laid.place)) (sym driven) (in_first (PadAt laid.place) []))
  some_as laid (OutputPad output) driven = absurd (false≢true driven)
  some_as laid (Cluster number) driven =
      let test = λ (ble : ℕ × LaidBle). (ble.1.name == net) && is_some ble.1.output in
      let q = first_index (leaves_as net) laid.bles driven in
      let place = λ (ble : ℕ × LaidBle). BleAt (ble_at arch layout laid ble.0) in
      (BleAt (ble_at arch layout laid q.0), to_map place (filter test (enumerate_from 0 laid.bles)) (q.0, q.1) (to_filter test (enumerate_from 0 laid.bles) (q.0, q.1) (indexed laid.bles q.0 q.1 q.2) q.3))

  first_of : (xs : List Driver) (x : Driver) → Contains xs x → (y : Driver) × (slice_get xs 0 ≡ Some y) × Contains xs y
  first_of [] x c = absurd (in_none x c)
  first_of (y ∷ xs) x c = (y, refl, in_first y xs)

  pub global_driver : (laid : LaidBlock) → Contains layout.blocks laid → drives net laid ≡ true → (driver : Driver) × (driver_of_net arch layout net ≡ Some driver) × HoldsDriver arch layout net driver
  global_driver laid there driven =
      let all = λ (laid : LaidBlock). drivers_as arch layout laid net laid.block in
      let s = some_as laid laid.block driven in
      let f = first_of (flat_map all layout.blocks) s.0 (to_flat_map all layout.blocks laid s.0 there s.1) in
      let m = from_flat_map all layout.blocks f.0 f.2 in
      (f.0, f.1, held_as m.0 m.1 f.0 m.0.block refl m.2)

  -- what is found drives the net
  pub driver_held : (driver : Driver) → driver_of_net arch layout net ≡ Some driver → HoldsDriver arch layout net driver
  driver_held driver is =
      let all = λ (laid : LaidBlock). drivers_as arch layout laid net laid.block in
      let m = from_flat_map all layout.blocks driver (from_get (flat_map all layout.blocks) 0 driver is).1 in
      held_as m.0 m.1 driver m.0.block refl m.2
