-- The limits of a device, and of the number of workers.
use Rattle.std.specs.Prelude.{ℕ, ◌≡◌, ◌≤◌}
use Rattle.fpgad_run.specs.Prelude.{MAX_WORKERS, MAX_TRACKS, MAX_COLUMNS, MAX_ROWS}
use Rattle.fpgad_run.specs.declared.options.Options.{Options}

abbrev pub AreLawful : ℕ → ℕ → ℕ → ℕ → Type 0
AreLawful tracks columns rows workers = (1 ≤ tracks) × (tracks ≤ MAX_TRACKS) × (1 ≤ columns) × (columns ≤ MAX_COLUMNS) × (1 ≤ rows) × (rows ≤ MAX_ROWS) × (workers ≤ MAX_WORKERS)

abbrev pub Holds : Options → ℕ → ℕ → ℕ → ℕ → Type 0
Holds options tracks columns rows workers = (options.tracks ≡ tracks) × (options.columns ≡ columns) × (options.rows ≡ rows) × (options.workers ≡ workers)
