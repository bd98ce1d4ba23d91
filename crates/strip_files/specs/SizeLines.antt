-- Lines with the size of a strip.
use Rattle.std.specs.Prelude.{ℕ, ◌≡◌, ◌≤◌, List, ◌++◌, Option, Some, None, codes, decimal}
use Rattle.strip_files.specs.Prelude.{MAX_COLUMNS, MAX_ROWS, is_no_digit}
use Rattle.strip_files.specs.Fronts.{Stops}
use Rattle.strip_files.specs.declared.size.StripSize.{StripSize}

-- the columns and the rows of a strip, with these bytes at the end of the line
abbrev pub size_line : ℕ → ℕ → List ℕ → List ℕ
size_line columns rows end = codes "Array size: " ++ (decimal columns ++ (codes " x " ++ (decimal rows ++ end)))

-- the numbers are within the service's limits
abbrev pub IsWithin : ℕ → ℕ → Type 0
IsWithin columns rows = ((1 ≤ columns) × (columns ≤ MAX_COLUMNS)) × ((1 ≤ rows) × (rows ≤ MAX_ROWS))

-- a size is found, and it has these numbers
abbrev pub HasSize : Option StripSize → ℕ → ℕ → Type 0
HasSize None columns rows = ⊥
HasSize (Some size) columns rows = (size.columns ≡ columns) × (size.rows ≡ rows)

-- the size in such a line is found
abbrev pub IsSizeRead : List ℕ → List ℕ → Option StripSize → Type 0
IsSizeRead line end found = (columns rows : ℕ) → IsWithin columns rows → Stops is_no_digit end → line ≡ size_line columns rows end → HasSize found columns rows
