-- The results of packing.
use Rattle.std.specs.Prelude.{ℕ, ◌≡◌, ◌+◌, ◌<◌, Result, Ok, Err, Option, Some, None, ⊤}
use Rattle.cluster.specs.declared.fault.PackFault.TheVariants.{CannotFit}
use Rattle.cluster.specs.declared.fault.PackError.{PackError}
use Rattle.cluster.specs.declared.fault.PackError.TheVariants.{Fault, NoMemory}
use Rattle.cluster.specs.declared.packing.PackEnd.{PackEnd}
use Rattle.cluster.specs.declared.packing.PackEnd.TheVariants.{More, Last}
use Rattle.cluster.specs.Clusters.{PackingUnderWay, one_more, packed_of, packing_steps}
pub use Rattle.cluster.specs.LawfulPackings.{IsPacked}

-- what a check may return, if this is the least BLE that doesn't fit into a cluster alone
abbrev pub IsChecked : Option ℕ → Result (Unit {0}) PackError → Type 0
IsChecked unfit (Ok u) = unfit ≡ None
IsChecked unfit (Err (Fault (CannotFit number))) = unfit ≡ Some number
IsChecked unfit (Err NoMemory) = ⊤

-- what a step may return: one cluster more, or all of them; if memory runs out, the packing is
-- handed back unchanged
abbrev pub GoesOn : PackingUnderWay → Result PackEnd PackingUnderWay → Type 0
GoesOn old (Ok (More new)) = (new ≡ one_more old) × (old.made + 1 < packing_steps old.circuit old.arch)
GoesOn old (Ok (Last packed)) = (packed ≡ packed_of old.circuit old.arch) × (old.made + 1 ≡ packing_steps old.circuit old.arch)
GoesOn old (Err back) = back ≡ old
