-- The results of reading a device file.
use Rattle.std.specs.Prelude.{ℕ, ◌≡◌, List, map, option_map, Result, Ok, Err, ⊤}
use Rattle.std.specs.declared.vec.Vec.{Vec}
use Rattle.std.specs.declared.alloc.Global.{Global}
use Rattle.line_text.specs.declared.text_error.TextError.{TextError}
use Rattle.line_text.specs.declared.text_error.TextError.TheVariants.{NoMemory, Fault}
use Rattle.device_file.specs.declared.fault.FaultKind.{FaultKind}
use Rattle.device_file.specs.declared.fault.DeviceFileFault.{DeviceFileFault}
use Rattle.device_file.specs.declared.reader.OptionValue.{OptionValue}
use Rattle.device_file.specs.declared.reader.Awaited.{Awaited}
use Rattle.device_file.specs.declared.reader.Reader.{Reader}
use Rattle.device_file.specs.DeviceFiles.{FoundFault, Given, Read, Step, Unfinished}

-- an option with its value, as it was read
abbrev pub given_of : OptionValue → Given
given_of value = record { name = value.name.now; text = value.text.now; line = value.line }

-- a fault that is returned
abbrev pub fault_of : DeviceFileFault → FoundFault
fault_of fault = record { line = fault.line; kind = fault.kind; word = fault.word.now }

-- an error of reading: the first fault, or that memory ran out
abbrev pub IsError : {A : Type 0} → Result A FoundFault → TextError DeviceFileFault → Type 0
IsError meant (Fault fault) = meant ≡ Err (fault_of fault)
IsError meant NoMemory = ⊤

-- the possible results of reading a device file: its options with their values, or an error
abbrev pub Gives : Result (List Given) FoundFault → Result (Vec OptionValue Global) (TextError DeviceFileFault) → Type 0
Gives meant (Ok values) = meant ≡ Ok (map given_of values.items)
Gives meant (Err error) = IsError meant error

-- private: what a reader has read
abbrev pub unfinished_of : Awaited → Unfinished
unfinished_of awaited = record { name = awaited.name.now; line = awaited.line }

abbrev pub read_of : Reader → Read
read_of reader = record { values = map given_of reader.values.items; awaited = option_map unfinished_of reader.awaited }

-- private: the possible results of the parts of reading
abbrev pub IsStep : Step → Read → Result (Unit {0}) (TextError DeviceFileFault) → Type 0
IsStep meant new (Ok nothing) = meant ≡ Ok new
IsStep meant new (Err error) = IsError meant error

abbrev pub Refuses : ℕ → FaultKind → List ℕ → TextError DeviceFileFault → Type 0
Refuses line kind word (Fault fault) = fault_of fault ≡ record { line = line; kind = kind; word = word }
Refuses line kind word NoMemory = ⊥
