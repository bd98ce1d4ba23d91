-- How a fault is reported: its number, its name and its printed text.
use Rattle.std.specs.Prelude.{ℕ, List, ◌++◌, codes}
use Rattle.std.specs.Fmt.{decimal}
use Rattle.arch_file.specs.declared.fault.ArchFault.{ArchFault}
use Rattle.arch_file.specs.declared.fault.ArchFaultKind.{ArchFaultKind}
use Rattle.arch_file.specs.declared.fault.ArchFaultKind.TheVariants.{Unknown, Repeated, Missing, BadNumber, NotProfile, BadClass, BadSide, OverLimit, NotAscii, LineTooLong}
use Rattle.line_text.specs.declared.fault.LineFault.{LineFault}
use Rattle.line_text.specs.declared.fault.LineFault.TheVariants as line_faults

-- the number of a kind of fault in replies
abbrev pub number_of : ArchFaultKind → ℕ
number_of Unknown = 1
number_of Repeated = 2
number_of (Missing keyword) = 3
number_of BadNumber = 4
number_of (NotProfile keyword) = 5
number_of BadClass = 6
number_of BadSide = 7
number_of OverLimit = 8
number_of NotAscii = 9
number_of LineTooLong = 10

-- the name of a kind of fault in replies
abbrev pub name_of : ArchFaultKind → List ℕ
name_of Unknown = codes "Unknown"
name_of Repeated = codes "Repeated"
name_of (Missing keyword) = codes "Missing"
name_of BadNumber = codes "BadNumber"
name_of (NotProfile keyword) = codes "NotProfile"
name_of BadClass = codes "BadClass"
name_of BadSide = codes "BadSide"
name_of OverLimit = codes "OverLimit"
name_of NotAscii = codes "NotAscii"
name_of LineTooLong = codes "LineTooLong"

-- number, name and line, separated by one blank
abbrev pub printed_fault : ArchFault → List ℕ
printed_fault fault = decimal (number_of fault.kind) ++ codes " " ++ name_of fault.kind ++ codes " " ++ decimal fault.line

-- a fault of the lines, as a fault of the text
abbrev pub fault_of_lines : LineFault → ArchFault
fault_of_lines (line_faults.NotAscii number) = record { line = number; kind = NotAscii }
fault_of_lines (line_faults.LineTooLong number) = record { line = number; kind = LineTooLong }
