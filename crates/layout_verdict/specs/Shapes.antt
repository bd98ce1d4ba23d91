-- The size of a strip and of its channels.
use Rattle.std.specs.Prelude.{ℕ, ◌≡◌, ◌≤◌}
use Rattle.arch_file.specs.declared.arch.TheConstants.{MAX_TRACKS}
use Rattle.grid.specs.declared.TheConstants.{MAX_COLUMNS, MAX_ROWS}
use Rattle.layout_verdict.specs.declared.shape.StripShape.{StripShape}

-- the numbers are within the service's limits
abbrev pub AreLawful : ℕ → ℕ → ℕ → Type 0
AreLawful columns rows tracks = ((1 ≤ columns) × (columns ≤ MAX_COLUMNS)) × ((1 ≤ rows) × (rows ≤ MAX_ROWS)) × ((1 ≤ tracks) × (tracks ≤ MAX_TRACKS))

-- the shape has these numbers
abbrev pub Holds : StripShape → ℕ → ℕ → ℕ → Type 0
Holds shape columns rows tracks = (shape.columns ≡ columns) × (shape.rows ≡ rows) × (shape.tracks ≡ tracks)
