-- Private: where three texts are the print of a layout, this layout is read.
use Rattle.std.specs.Prelude.{ℕ, ◌≡◌, List, Result, Ok, Err, ⊤}
use Rattle.layout_files.specs.Prelude.{Arch, Circuit, Strip, Layout, TextError, NoMemory, Fault}
use Rattle.layout_files.specs.Fitting.{FitsFiles, HasFileNames}
use Rattle.layout_files.specs.LayoutFiles.{ArePrintOf}

-- there is no fault, and if memory does not run out, this is so
abbrev pub Given : {T F : Type 0} → Result T (TextError F) → (T → Type 0) → Type 0
Given (Ok found) holds = holds found
Given (Err NoMemory) holds = ⊤
Given (Err (Fault fault)) holds = ⊥

-- the layout that the three texts are the print of is found
abbrev pub IsFound : {F : Type 0} → Circuit → Arch → Strip → List ℕ → List ℕ → List ℕ → Result Layout (TextError F) → Type 0
IsFound circuit arch strip net place route result = (layout : Layout) → HasFileNames circuit → FitsFiles circuit arch layout → ArePrintOf circuit arch strip net place route layout → Given result (λ found. found ≡ layout)
