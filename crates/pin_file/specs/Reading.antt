-- The results of reading a pin file.
use Rattle.std.specs.Prelude.{◌≡◌, List, map, Result, Ok, Err, ⊤}
use Rattle.std.specs.declared.vec.Vec.{Vec}
use Rattle.std.specs.declared.alloc.Global.{Global}
use Rattle.line_text.specs.declared.text_error.TextError.{TextError}
use Rattle.line_text.specs.declared.text_error.TextError.TheVariants.{NoMemory, Fault}
use Rattle.pin_file.specs.PinFiles as file
use Rattle.pin_file.specs.declared.fault.PinFileFault.{PinFileFault}
use Rattle.pin_file.specs.declared.reader.PinLine.{PinLine}

-- a pin, as it was read
abbrev pub pin_read : PinLine → file.Pin
pin_read pin = record { line = pin.line; name = pin.name.now; place = pin.place }

abbrev pub pins_read : List PinLine → List file.Pin
pins_read pins = map pin_read pins

-- the possible results of reading a pin file: its pins, its fault, or that memory ran out
abbrev pub Gives : Result (List file.Pin) PinFileFault → Result (Vec PinLine Global) (TextError PinFileFault) → Type 0
Gives meant (Ok pins) = meant ≡ Ok (pins_read pins.items)
Gives meant (Err (Fault fault)) = meant ≡ Err fault
Gives meant (Err NoMemory) = ⊤
