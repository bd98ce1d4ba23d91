-- The limits of a device.
use Rattle.std.specs.Prelude.{ℕ, ◌≡◌, ◌≤◌, ◌*◌}
use Rattle.live_run.specs.Prelude.{MAX_TRACKS, MAX_COLUMNS, MAX_ROWS, Arch, Device}
use Rattle.live_run.specs.declared.options.Options.{Options}
use Rattle.live_run.specs.declared.options.TheConstants.{MIB}

abbrev pub AreLawful : ℕ → ℕ → ℕ → Type 0
AreLawful tracks columns rows = (1 ≤ tracks) × (tracks ≤ MAX_TRACKS) × (1 ≤ columns) × (columns ≤ MAX_COLUMNS) × (1 ≤ rows) × (rows ≤ MAX_ROWS)

abbrev pub Holds : Options → ℕ → ℕ → ℕ → Type 0
Holds options tracks columns rows = (options.tracks ≡ tracks) × (options.columns ≡ columns) × (options.rows ≡ rows)

abbrev pub device_of : Options → Arch → Device
device_of options arch = record { arch = arch; columns = options.columns; rows = options.rows; text_limit = options.tenant_memory * MIB }
