-- Private: what reading a part of a line may return, if that part has these faults.
use Rattle.std.specs.Prelude.{◌≡◌, List, [], ◌∷◌, Option, Some, Result, Ok, Err}
use Rattle.arch_file.specs.declared.fault.ArchFaultKind.{ArchFaultKind}
use Rattle.line_text.specs.LeastFault.{least_by}
use Rattle.arch_file.specs.FaultLists.{comes_before}

-- there is at most one fault, and it is returned
abbrev pub Finds : {X : Type 0} → List ArchFaultKind → Result X ArchFaultKind → Type 0
Finds faults (Ok value) = faults ≡ []
Finds faults (Err kind) = faults ≡ kind ∷ []

-- the least of these kinds
abbrev pub least_kind : List ArchFaultKind → Option ArchFaultKind
least_kind kinds = least_by comes_before kinds

-- there may be several faults, and the least is returned
abbrev pub FindsLeast : {X : Type 0} → List ArchFaultKind → Result X ArchFaultKind → Type 0
FindsLeast faults (Ok value) = faults ≡ []
FindsLeast faults (Err kind) = least_kind faults ≡ Some kind
