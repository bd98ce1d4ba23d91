-- How replies report a fault.
use Rattle.std.specs.Prelude.{ℕ, List, [], ◌++◌, Option, None, Some, codes, encode_utf8_all}
use Rattle.std.specs.Fmt.{decimal}
use Rattle.line_text.specs.declared.fault.LineFault.{LineFault}
use Rattle.line_text.specs.declared.fault.LineFault.TheVariants.{NotAscii as LineNotAscii, LineTooLong as LineLineTooLong}
use Rattle.blif.specs.declared.fault.BlifFaultKind.{BlifFaultKind}
use Rattle.blif.specs.declared.fault.BlifFaultKind.TheVariants.{Unknown, BadCover, MixedCover, TooWide, TwoDrivers, Undriven, RepeatedOutput, BadLatch, NoModel, OverLimit, NotAscii, LineTooLong}
use Rattle.blif.specs.declared.fault.BlifFault.{BlifFault}

-- the number of a kind of fault in replies
abbrev pub number_of : BlifFaultKind → ℕ
number_of Unknown = 1
number_of BadCover = 2
number_of MixedCover = 3
number_of TooWide = 4
number_of (TwoDrivers net) = 5
number_of (Undriven net) = 6
number_of (RepeatedOutput net) = 7
number_of BadLatch = 8
number_of NoModel = 9
number_of OverLimit = 10
number_of NotAscii = 11
number_of LineTooLong = 12

-- the name of a kind of fault in replies
abbrev pub name_of : BlifFaultKind → List ℕ
name_of Unknown = codes "Unknown"
name_of BadCover = codes "BadCover"
name_of MixedCover = codes "MixedCover"
name_of TooWide = codes "TooWide"
name_of (TwoDrivers net) = codes "TwoDrivers"
name_of (Undriven net) = codes "Undriven"
name_of (RepeatedOutput net) = codes "RepeatedOutput"
name_of BadLatch = codes "BadLatch"
name_of NoModel = codes "NoModel"
name_of OverLimit = codes "OverLimit"
name_of NotAscii = codes "NotAscii"
name_of LineTooLong = codes "LineTooLong"

-- the net that it names, if it names one
abbrev pub net_of : BlifFaultKind → Option (List ℕ)
net_of Unknown = None
net_of BadCover = None
net_of MixedCover = None
net_of TooWide = None
net_of (TwoDrivers net) = Some net
net_of (Undriven net) = Some net
net_of (RepeatedOutput net) = Some net
net_of BadLatch = None
net_of NoModel = None
net_of OverLimit = None
net_of NotAscii = None
net_of LineTooLong = None

-- a blank and the net, with each byte as the character of its number; nothing if there is no net
abbrev pub printed_net : Option (List ℕ) → List ℕ
printed_net None = []
printed_net (Some net) = codes " " ++ encode_utf8_all net

-- number, name and line, and the net if the fault names one, separated by blanks
abbrev pub printed_fault : BlifFault → List ℕ
printed_fault fault = decimal (number_of fault.kind) ++ codes " " ++ name_of fault.kind ++ codes " " ++ decimal fault.line ++ printed_net (net_of fault.kind)

-- a fault of splitting into lines, as a fault of the netlist
abbrev pub fault_of_lines : LineFault → BlifFault
fault_of_lines (LineNotAscii number) = record { line = number; kind = NotAscii }
fault_of_lines (LineLineTooLong number) = record { line = number; kind = LineTooLong }
