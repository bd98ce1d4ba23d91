-- The limits of a device's size.
use Rattle.std.specs.Prelude.{ℕ, ◌≡◌, ◌≤◌}
use Rattle.device_lines.specs.Prelude.{MAX_IO_RAT, MAX_TRACKS, MAX_COLUMNS, MAX_ROWS}
use Rattle.device_lines.specs.declared.size.DeviceSize.{DeviceSize}

abbrev pub AreLawful : ℕ → ℕ → ℕ → ℕ → Type 0
AreLawful columns rows tracks pads =
    (1 ≤ columns) × (columns ≤ MAX_COLUMNS) × (1 ≤ rows) × (rows ≤ MAX_ROWS) × (1 ≤ tracks) × (tracks ≤ MAX_TRACKS) × (1 ≤ pads) × (pads ≤ MAX_IO_RAT)

abbrev pub Holds : DeviceSize → ℕ → ℕ → ℕ → ℕ → Type 0
Holds size columns rows tracks pads =
    (size.columns ≡ columns) × (size.rows ≡ rows) × (size.tracks ≡ tracks) × (size.pads ≡ pads)
