-- What is wrong with a block by itself.
use Rattle.std.specs.Prelude.{ℕ, ◌≡◌, ◌<◌, ◌≤◌, List, All, Contains, Some, None, length, slice_get}
use Rattle.layout_check.specs.Prelude.{Arch, Clock, Output, kind_of, Strip, places_of, Feed, IsNarrowBle, ble_places, IsFed, LaidBle, LaidBlock, input_net, on_pin}
use Rattle.layout_check.specs.declared.fault.BleFault.{BleFault}
use Rattle.layout_check.specs.declared.fault.BleFault.TheVariants.{TooManyInputs, NoInput, NoClock, WrongOutput}
use Rattle.layout_check.specs.declared.fault.BlockFault.{BlockFault}
use Rattle.layout_check.specs.declared.fault.BlockFault.TheVariants.{NoPlace, TooManyBles, Ble}

-- what a fault says of a BLE
abbrev pub IsBleFault : Arch → LaidBlock → LaidBle → BleFault → Type 0
IsBleFault arch block ble TooManyInputs = arch.lut_size < length ble.inputs
IsBleFault arch block ble (NoInput number) = (feed : Feed) × (slice_get ble.inputs number ≡ Some feed) × (input_net arch block feed ≡ None)
IsBleFault arch block ble NoClock = (pin : ℕ) × (ble.clock ≡ Some pin) × (on_pin arch block Clock pin ≡ None)
IsBleFault arch block ble WrongOutput = (pin : ℕ) × (ble.output ≡ Some pin) × (on_pin arch block Output pin ≡ Some ble.name → ⊥)

-- the block is on a place of its kind, it has no more BLEs and inputs than there are, and nets come
-- to its BLEs
pub record IsBlockRight (arch : Arch) (strip : Strip) (laid : LaidBlock) : Type 0 where
  pub on_place : Contains (places_of strip (kind_of laid.block)) laid.place
  pub few : length laid.bles ≤ ble_places arch laid.block
  pub are_fed : All (IsFed arch laid) laid.bles
  pub are_narrow : All (IsNarrowBle arch) laid.bles

-- what a fault says of a block
abbrev pub IsBlockFault : Arch → Strip → LaidBlock → BlockFault → Type 0
IsBlockFault arch strip laid NoPlace = Contains (places_of strip (kind_of laid.block)) laid.place → ⊥
IsBlockFault arch strip laid TooManyBles = ble_places arch laid.block < length laid.bles
IsBlockFault arch strip laid (Ble number fault) = (ble : LaidBle) × (slice_get laid.bles number ≡ Some ble) × IsBleFault arch laid ble fault
