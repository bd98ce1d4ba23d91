-- A layout: what the three result files say, with each net by its number in the circuit.
use Rattle.std.specs.Prelude.{ℕ, true, false, map, List, All, Option, Some, None, ◌≡◌, option_and_then, option_map, is_some, slice_get, if◌then◌else◌}
use Rattle.std.specs.List.{flat_map}
use Rattle.std.specs.Option.{ForSome, option_map_or, option_to_list}
use Rattle.implements.specs.Prelude.{Arch, PinClass, Input, Output, Clock, Block, LogicElement, is_same_class, Place, Node}
use Rattle.implements.specs.declared.feed.Feed.{Feed}
use Rattle.implements.specs.declared.feed.Feed.TheVariants.{Pin, Ble}

-- a BLE: the net that it drives, where its inputs come from, the pin by which its net leaves the
-- block, and the pin by which its clock comes in
pub record LaidBle : Type 0 where
  pub name : ℕ
  pub inputs : List Feed
  pub output : Option ℕ
  pub clock : Option ℕ

-- a block on its place: a cluster with the net on each of its pins and its BLEs, or a pad
pub record LaidBlock : Type 0 where
  pub block : Block
  pub pins : List (Option ℕ)
  pub bles : List LaidBle
  pub place : Place

-- a net between blocks: the numbers of the blocks that are listed with it if it is global, and the
-- paths of its tree
pub record LaidNet : Type 0 where
  pub net : ℕ
  pub listed : List ℕ
  pub paths : List (List Node)

-- the nets on the global network, the blocks and the nets between them
pub record Layout : Type 0 where
  pub globals : List ℕ
  pub blocks : List LaidBlock
  pub nets : List LaidNet

-- the net on a pin of the block, if the pin is of that class
abbrev pub on_pin : Arch → LaidBlock → PinClass → ℕ → Option ℕ
on_pin arch block class pin =
    if option_map_or (λ found. is_same_class class found.class) (slice_get arch.pins pin) false then option_and_then (λ net. net) (slice_get block.pins pin) else None

-- the net that comes to an input of a BLE
abbrev pub input_net : Arch → LaidBlock → Feed → Option ℕ
input_net arch block (Pin pin) = on_pin arch block Input pin
input_net arch block (Ble place) = option_map (λ ble. ble.name) (slice_get block.bles place)

-- a traced BLE: the nets that come to its inputs, the net that it drives, and the net that clocks
-- it
abbrev pub traced_ble : Arch → LaidBlock → LaidBle → LogicElement
traced_ble arch block ble = record { inputs = flat_map (λ feed. option_to_list (input_net arch block feed)) ble.inputs; output = ble.name; clock = option_and_then (on_pin arch block Clock) ble.clock }

-- the traced BLEs of a layout
abbrev pub traced_bles : Arch → Layout → List LogicElement
traced_bles arch layout = flat_map (λ block. map (traced_ble arch block) block.bles) layout.blocks

-- a net comes to each input of the BLE, and to its clock pin if it has one; its output pin, if it
-- has one, carries the net that it drives
pub record IsFed (arch : Arch) (block : LaidBlock) (ble : LaidBle) : Type 0 where
  pub inputs : All (λ feed. is_some (input_net arch block feed) ≡ true) ble.inputs
  pub clock : ForSome ble.clock (λ pin. is_some (on_pin arch block Clock pin) ≡ true)
  pub output : ForSome ble.output (λ pin. on_pin arch block Output pin ≡ Some ble.name)
