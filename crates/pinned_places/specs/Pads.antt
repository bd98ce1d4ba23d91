-- The pads of pins, or the first pin that can't be met.
use Rattle.std.specs.Prelude.{ℕ, ◌+◌, Bool, false, ◌&&◌, ◌||◌, ◌==◌, nat_le, nat_lt, List, [], ◌∷◌, ◌++◌, codes, drop, take, find, position, Option, Some, None, Result, Ok, Err, if◌then◌else◌}
use Rattle.std.specs.Str.{bytes_eq}
use Rattle.pinned_places.specs.Prelude.{PackedCircuit, BlockKey, keys_of, BlockKind, InputPad, OutputPad, Cluster, Strip, Place, is_same_place, Pin}
use Rattle.pinned_places.specs.declared.fault.PinFault.{PinFault}
use Rattle.pinned_places.specs.declared.fault.PinFaultKind.{PinFaultKind}
use Rattle.pinned_places.specs.declared.fault.PinFaultKind.TheVariants.{NoPad, NoPlace, NamedBefore, TakenBefore}
use Rattle.pinned_places.specs.declared.pads.FixedPad.{FixedPad}

-- whether a name is `out:` and then that net's name
abbrev pub is_out_named : List ℕ → List ℕ → Bool
is_out_named net name = bytes_eq (take 4 name) (codes "out:") && bytes_eq net (drop 4 name)

-- whether a block of that kind, which has its name from that net, is a pad with the name: an input
-- has its net's name; an output has it with `out:` before it, and without
abbrev pub is_named_by : BlockKind → List ℕ → List ℕ → Bool
is_named_by InputPad net name = bytes_eq net name
is_named_by OutputPad net name = bytes_eq net name || is_out_named net name
is_named_by Cluster net name = false

abbrev pub is_pad_named : List ℕ → BlockKey → Bool
is_pad_named name key = is_named_by key.kind key.name name

-- the block of the first pad with the name, inputs before outputs
abbrev pub pad_number : PackedCircuit → List ℕ → Option ℕ
pad_number packed name = position (is_pad_named name) (keys_of packed)

-- whether a place is one for a pad: in a column of the strip, below its first row or above its
-- last, and with one of the pads' numbers
abbrev pub is_pad_place : Strip → Place → Bool
is_pad_place strip place =
    nat_le 1 place.x && (nat_le place.x strip.width && ((place.y == 0 || place.y == strip.rows + 1) && nat_lt place.subblock strip.io_rat))

-- the pad, if no earlier one is the same block or has the same place
abbrev pub if_first : Option FixedPad → Option FixedPad → FixedPad → Result FixedPad PinFault
if_first (Some earlier) other pad = Err (record { line = pad.line; kind = NamedBefore earlier.line })
if_first None (Some earlier) pad = Err (record { line = pad.line; kind = TakenBefore earlier.line })
if_first None None pad = Ok pad

abbrev pub pad_behind : List FixedPad → FixedPad → Result FixedPad PinFault
pad_behind before pad = if_first (find (λ earlier. earlier.block == pad.block) before) (find (λ earlier. is_same_place earlier.place pad.place) before) pad

-- the pad of a pin that follows these pads
abbrev pub pad_by : Strip → List FixedPad → Pin → Option ℕ → Result FixedPad PinFault
pad_by strip before pin None = Err (record { line = pin.line; kind = NoPad })
pad_by strip before pin (Some block) =
    if is_pad_place strip pin.place then pad_behind before (record { line = pin.line; block = block; place = pin.place })
    else Err (record { line = pin.line; kind = NoPlace })

abbrev pub pad_of : PackedCircuit → Strip → List FixedPad → Pin → Result FixedPad PinFault
pad_of packed strip before pin = pad_by strip before pin (pad_number packed pin.name)

-- the pads before and those of the pins that follow, or the first of these pins that can't be met
abbrev pub then_pads : (List FixedPad → Result (List FixedPad) PinFault) → List FixedPad → Result FixedPad PinFault → Result (List FixedPad) PinFault
then_pads next before (Ok pad) = next (before ++ pad ∷ [])
then_pads next before (Err fault) = Err fault

unfoldable pub pads_after : PackedCircuit → Strip → List FixedPad → List Pin → Result (List FixedPad) PinFault
pads_after packed strip before [] = Ok before
pads_after packed strip before (pin ∷ pins) = then_pads (λ more. pads_after packed strip more pins) before (pad_of packed strip before pin)

-- the pads of pins
abbrev pub pads_of : PackedCircuit → Strip → List Pin → Result (List FixedPad) PinFault
pads_of packed strip pins = pads_after packed strip [] pins
