-- Private: the first fault of a line or of a text, in the order of the list.
use Rattle.std.specs.Prelude.{List, Option, option_map}
use Rattle.line_text.specs.LeastFault.{Found}
use Rattle.blif.specs.declared.fault.BlifFault.{BlifFault}
use Rattle.blif.specs.declared.fault.BlifFaultKind.{BlifFaultKind}
use Rattle.blif.specs.Names.{first_of}
use Rattle.blif.specs.BlifFaults.{WordFault}

-- the kind of the first of these faults of a line
abbrev pub first_kind : List WordFault → Option BlifFaultKind
first_kind faults = option_map (λ fault. fault.kind) (first_of faults)

-- the first of these faults of a text
abbrev pub first_fault : List (Found BlifFault) → Option BlifFault
first_fault faults = option_map (λ found. found.fault) (first_of faults)
