-- What a strip has, the device has at the strip's offset, and it is in the strip.
use Rattle.device_law.proofs.Prelude.{◌≡◌, ℕ, ◌+◌, ◌-◌, ◌<◌, ◌≤◌, Bool, true, false, ◌||◌, ◌&&◌, nat_le, List, length, sym, ap, subst, arith, le-leb, lt-ltb, eq-eqb, slice_get, ◌==◌, option_map_or, and_from, and_parts, cases_lt, leb-true, ltb-true, slice_get_within, is_input_class, is_output_class, Arch, Pin, few_pins, Strip, NodeKind, Resource, ResourceKind, Opin, Ipin, ChanX, ChanY, Pad, is_block_number, is_block_row, is_pad_row, is_slot, is_there, Device, IsDevice, strip_on, DeviceSize, Listed, is_within, is_chan_y, is_in_strip, is_on_by, is_pad_on, is_pin_on, size_of}
use Rattle.std.proofs.Common.{nat_lt}
use Rattle.rr_graph.specs.declared.node.NodeKind.TheVariants as Nodes

or_left : (a b : Bool) → a ≡ true → (a || b) ≡ true
or_left a b is = ap (λ t. t || b) is

or_right : (a b : Bool) → b ≡ true → (a || b) ≡ true
or_right a b is = grind arith

or_false : (b : Bool) → (b || false) ≡ true → b ≡ true
or_false b h = grind arith

pin_within : (test : Pin → Bool) (pins : List Pin) (n : ℕ) → option_map_or test (slice_get pins n) false ≡ true → n < length pins
pin_within test pins n is = grind (arith, slice_get_within)

-- a pad's or a block's row
edge : (rows y : ℕ) → ((y == 0) || (y == rows + 1)) ≡ true → ((y == 0) || nat_lt rows y) ≡ true
edge rows y is = grind arith

between : (rows y : ℕ) → 1 ≤ y → y ≤ rows → ((y == 0) || nat_lt rows y) ≡ false
between rows y low high = grind arith

module _ (device : Device) (known : IsDevice device) (width offset : ℕ) (inside : offset + width ≤ device.columns) where
  abbrev size : DeviceSize
  size = size_of device known

  abbrev arch : Arch
  arch = device.arch

  abbrev strip : Strip
  strip = strip_on device width

  abbrev at : ResourceKind → ℕ → ℕ → ℕ → Resource
  at kind x y n = record { x = x; kind = kind; y = y; n = n }

  column : (x : ℕ) → offset ≤ x → (1 ≤ x - offset) → (x - offset ≤ width) → is_within x device.columns ≡ true
  column x right low high = and_from (nat_le 1 x) (nat_le x device.columns) (le-leb 1 x (omega (arith, right, low))) (le-leb x device.columns (omega (arith, right, high, inside)))

  pad_on : (kind : ResourceKind) (x y n : ℕ) → offset ≤ x → (1 ≤ x - offset) → (x - offset ≤ width) → (is_pad_row strip y && nat_lt n device.arch.io_rat) ≡ true → is_pad_on size (at kind x y n) ≡ true
  pad_on kind x y n right low high row = and_from (is_within x device.columns) (is_pad_row strip y && nat_lt n device.arch.io_rat) (column x right low high) row

  pin_on : (kind : ResourceKind) (x y n : ℕ) (numbered : Bool) → (numbered ≡ true → n < length device.arch.pins) → offset ≤ x → (1 ≤ x - offset) → (x - offset ≤ width) →
      ((is_pad_row strip y && nat_lt n device.arch.io_rat) || (is_block_row strip y && numbered)) ≡ true → is_pin_on size (at kind x y n) ≡ true
  pin_on kind x y n numbered pin right low high slot = grind (arith, and_parts, edge, pad_on, few_pins, between, leb-true, and_from, column, lt-ltb)

  -- a pin or a wire above a row is right of the strip's left end
  record IsOwn (x : ℕ) (slot : Bool) : Type 0 where
    low : 1 ≤ x - offset
    high : x - offset ≤ width
    there : slot ≡ true

  own : (x : ℕ) (slot : Bool) → (nat_le (x - offset) width && ((nat_le 1 (x - offset) || false) && slot)) ≡ true → IsOwn x slot
  own x slot is = grind arith

  pub on_device : (kind : ResourceKind) (x y n : ℕ) → offset ≤ x → is_there arch strip (at kind (x - offset) y n) ≡ true → is_on_by kind size (at kind x y n) ≡ true
  on_device Opin x y n right is =
      let o = own x (is_slot arch strip Nodes.Opin y n) is in
      pin_on Opin x y n (is_block_number arch Nodes.Opin n) (pin_within (λ pin. is_output_class pin.class) arch.pins n) right o.low o.high o.there
  on_device Ipin x y n right is =
      let o = own x (is_slot arch strip Nodes.Ipin y n) is in
      pin_on Ipin x y n (is_block_number arch Nodes.Ipin n) (pin_within (λ pin. is_input_class pin.class) arch.pins n) right o.low o.high o.there
  on_device ChanX x y n right is = grind (arith, own, and_from, column)
  on_device ChanY x y n right is = grind (arith, and_parts, leb-true, and_from, le-leb)
  on_device Pad x y n right is = grind (arith, and_parts, pad_on, leb-true)

  -- it is in the strip
  abbrev InStrip : ResourceKind → ℕ → Type 0
  InStrip kind x = ((nat_lt offset x && nat_le x (offset + width)) || (is_chan_y kind && (x == offset))) ≡ true

  right_of : (kind : ResourceKind) (x : ℕ) → 1 ≤ x - offset → x - offset ≤ width → InStrip kind x
  right_of kind x low high = grind arith

  pub in_strip : (kind : ResourceKind) (x y n : ℕ) → offset ≤ x → is_there arch strip (at kind (x - offset) y n) ≡ true → InStrip kind x
  in_strip kind x y n right is = grind (arith, right_of, and_parts, leb-true, cases_lt, or_right, eq-eqb)
