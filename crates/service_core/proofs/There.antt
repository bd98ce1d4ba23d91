-- The book has a place for each resource of a strip.
use Rattle.service_core.proofs.Prelude.{◌≡◌, ◌⊎◌, inl, inr, ℕ, ◌+◌, ◌<◌, ◌≤◌, List, length, Bool, true, false, ◌&&◌, ◌||◌, nat_le, nat_lt, subst, arith, max, slice_get, option_map_or, and_parts, and_from, or_cases, leb-true, ltb-true, le-leb, lt-ltb, slice_get_within, Arch, Pin, is_input_class, is_output_class, Strip, ResourceKind, Opin, Ipin, ChanX, ChanY, Resource, is_block_number, is_block_row, is_pad_row, is_slot, is_there, moved_resource, extent_of, in_book}
use Rattle.rr_graph.specs.declared.node.NodeKind.TheVariants as Nodes
use Rattle.rr_graph.specs.declared.resource.ResourceKind.TheVariants.{Pad}

-- a number greater than any number of a pin, a track or a pad
abbrev numbers_in : Arch → ℕ → ℕ
numbers_in arch io_rat = max (max (length arch.pins) arch.tracks) io_rat

record Within (arch : Arch) (strip : Strip) (x y n : ℕ) : Type 0 where
  column : x ≤ strip.width
  row : y ≤ strip.rows + 1
  number : n < numbers_in arch strip.io_rat

pad_row : (strip : Strip) (y : ℕ) → is_pad_row strip y ≡ true → y ≤ strip.rows + 1
pad_row strip y is = grind arith

block_row : (strip : Strip) (y : ℕ) → is_block_row strip y ≡ true → y ≤ strip.rows + 1
block_row strip y is = let both = and_parts (nat_le 1 y) (nat_le y strip.rows) is in let high : y ≤ strip.rows = leb-true y strip.rows both.1 in omega (arith, high)

pin_within : (test : Pin → Bool) (pins : List Pin) (n : ℕ) → option_map_or test (slice_get pins n) false ≡ true → n < length pins
pin_within test pins n is = grind (arith, slice_get_within)

module _ (arch : Arch) (strip : Strip) (x y n : ℕ) where
  pad_number : nat_lt n strip.io_rat ≡ true → n < numbers_in arch strip.io_rat
  pad_number is = let few : n < strip.io_rat = ltb-true n strip.io_rat is in omega (arith, few)

  pin_number : n < length arch.pins → n < numbers_in arch strip.io_rat
  pin_number few = omega (arith, few)

  track_number : nat_lt n arch.tracks ≡ true → n < numbers_in arch strip.io_rat
  track_number is = let few : n < arch.tracks = ltb-true n arch.tracks is in omega (arith, few)

  terminal : (numbered : Bool) → (numbered ≡ true → n < length arch.pins) → ((is_pad_row strip y && nat_lt n strip.io_rat) || (is_block_row strip y && numbered)) ≡ true → (y ≤ strip.rows + 1) × (n < numbers_in arch strip.io_rat)
  terminal numbered pin is = by_row (or_cases (is_pad_row strip y && nat_lt n strip.io_rat) (is_block_row strip y && numbered) is)
    where
      by_row : ((is_pad_row strip y && nat_lt n strip.io_rat) ≡ true) ⊎ ((is_block_row strip y && numbered) ≡ true) → (y ≤ strip.rows + 1) × (n < numbers_in arch strip.io_rat)
      by_row (inl e) = let both = and_parts (is_pad_row strip y) (nat_lt n strip.io_rat) e in (pad_row strip y both.0, pad_number both.1)
      by_row (inr e) = let both = and_parts (is_block_row strip y) numbered e in (block_row strip y both.0, pin_number (pin both.1))

  node : (own : Bool) (slot : Bool) → (slot ≡ true → (y ≤ strip.rows + 1) × (n < numbers_in arch strip.io_rat)) → (nat_le x strip.width && (own && slot)) ≡ true → Within arch strip x y n
  node own slot in_slot is =
      let outer = and_parts (nat_le x strip.width) (own && slot) is in
      let found = in_slot (and_parts own slot outer.1).1 in
      record { column = leb-true x strip.width outer.0; row = found.0; number = found.1 }

  within : (kind : ResourceKind) → is_there arch strip (record { x = x; kind = kind; y = y; n = n }) ≡ true → Within arch strip x y n
  within Opin is = node (nat_le 1 x || false) (is_slot arch strip Nodes.Opin y n) (terminal (is_block_number arch Nodes.Opin n) (pin_within (λ pin. is_output_class pin.class) arch.pins n)) is
  within Ipin is = node (nat_le 1 x || false) (is_slot arch strip Nodes.Ipin y n) (terminal (is_block_number arch Nodes.Ipin n) (pin_within (λ pin. is_input_class pin.class) arch.pins n)) is
  within ChanX is = node (nat_le 1 x || false) (is_slot arch strip Nodes.ChanX y n)
      (λ slot. let both = and_parts (nat_le y strip.rows) (nat_lt n arch.tracks) slot in let low : y ≤ strip.rows = leb-true y strip.rows both.0 in (omega (arith, low), track_number both.1)) is
  within ChanY is = node (nat_le 1 x || true) (is_slot arch strip Nodes.ChanY y n)
      (λ slot. let both = and_parts (is_block_row strip y) (nat_lt n arch.tracks) slot in (block_row strip y both.0, track_number both.1)) is
  within Pad is =
      let outer = and_parts (nat_le 1 x) (nat_le x strip.width && (is_pad_row strip y && nat_lt n strip.io_rat)) is in
      let inner = and_parts (nat_le x strip.width) (is_pad_row strip y && nat_lt n strip.io_rat) outer.1 in
      let place = and_parts (is_pad_row strip y) (nat_lt n strip.io_rat) inner.1 in
      record { column = leb-true x strip.width inner.0; row = pad_row strip y place.0; number = pad_number place.1 }

-- on a device of these columns
pub stands : (arch : Arch) (strip : Strip) (columns offset : ℕ) (resource : Resource) → strip.io_rat ≡ arch.io_rat → offset + strip.width ≤ columns → is_there arch strip resource ≡ true →
    in_book (extent_of arch columns strip.rows) (moved_resource offset resource) ≡ true
stands arch strip columns offset r rate inside there =
    let bounds : Within arch strip r.x r.y r.n = within arch strip r.x r.y r.n r.kind there in
    let few : r.n < numbers_in arch arch.io_rat = subst (λ rate. r.n < numbers_in arch rate) rate bounds.number in
    and_from (nat_le (r.x + offset) columns) (nat_le r.y (strip.rows + 1) && nat_lt r.n (numbers_in arch arch.io_rat)) (le-leb (r.x + offset) columns (let low : r.x ≤ strip.width = bounds.column in omega (arith, low, inside)))
    (and_from (nat_le r.y (strip.rows + 1)) (nat_lt r.n (numbers_in arch arch.io_rat)) (le-leb r.y (strip.rows + 1) bounds.row) (lt-ltb r.n (numbers_in arch arch.io_rat) few))
