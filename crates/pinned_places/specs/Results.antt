-- The results of pinning.
use Rattle.std.specs.Prelude.{ℕ, ◌≡◌, ◌<◌, List, All, AllPairs, Contains, length, slice_get, Option, Some, Result, Ok, Err, ⊤}
use Rattle.std.specs.declared.vec.Vec.{Vec}
use Rattle.std.specs.declared.alloc.Global.{Global}
use Rattle.pinned_places.specs.Prelude.{TextError, NoMemory, Fault, blocks_of, PackedCircuit, Strip, Pad, Place, places_of, kind_of, block_at, PlacingUnderWay, places_by_block, Pin}
use Rattle.pinned_places.specs.Exchanges.{with_pads}
use Rattle.pinned_places.specs.Pads.{pad_number, pads_of}
use Rattle.pinned_places.specs.declared.fault.PinFault.{PinFault}
use Rattle.pinned_places.specs.declared.pads.FixedPad.{FixedPad}

-- private: the pads, or the first pin that can't be met
abbrev pub GivesPads : Result (List FixedPad) PinFault → Result (Vec FixedPad Global) (TextError PinFault) → Type 0
GivesPads meant (Ok pads) = meant ≡ Ok pads.items
GivesPads meant (Err (Fault fault)) = meant ≡ Err fault
GivesPads meant (Err NoMemory) = ⊤

-- the pad of a pin's name is on the pin's place
abbrev pub HasPin : PlacingUnderWay → Pin → Type 0
HasPin placing pin = (block : ℕ) × (pad_number placing.packed pin.name ≡ Some block) × (slice_get (places_by_block placing) block ≡ Some pin.place)

-- the same circuit on the same strip, with the pads of these pins on their places
pub record IsPinned (old : PlacingUnderWay) (pins : List Pin) (new : PlacingUnderWay) : Type 0 where
  pub pads : List FixedPad
  pub met : pads_of old.packed old.strip pins ≡ Ok pads
  pub packed : new.packed ≡ old.packed
  pub strip : new.strip ≡ old.strip
  pub places : places_by_block new ≡ with_pads pads (places_by_block old)
  pub pinned : All (HasPin new) pins

-- the possible results of pinning: that placing, the first pin that can't be met, or that memory
-- ran out
abbrev pub GivesPinned : PlacingUnderWay → List Pin → Result PlacingUnderWay (TextError PinFault) → Type 0
GivesPinned old pins (Ok new) = IsPinned old pins new
GivesPinned old pins (Err (Fault fault)) = pads_of old.packed old.strip pins ≡ Err fault
GivesPinned old pins (Err NoMemory) = ⊤

-- private: pads of a packed circuit with places for pads, no two of them the same
pub record ArePads (packed : PackedCircuit) (strip : Strip) (pads : List FixedPad) : Type 0 where
  pub blocks : All (λ pad. pad.block < length (blocks_of packed)) pads
  pub kinds : All (λ pad. kind_of (block_at packed pad.block) ≡ Pad) pads
  pub places : All (λ pad. Contains (places_of strip Pad) pad.place) pads
  pub blocks_apart : AllPairs (λ pad other. pad.block ≡ other.block → ⊥) pads
  pub places_apart : AllPairs (λ pad other. pad.place ≡ other.place → ⊥) pads
