-- The device of the tests.
use Rattle.std.specs.Prelude.{◌≡◌}
use Rattle.arch_file.specs.Arch.{IsArch}
use Rattle.service_core.specs.declared.device.Device.{Device}

-- a device of eight columns and one row
pub record IsSmall (device : Device) : Type 0 where
  pub arch : IsArch device.arch
  pub columns : device.columns ≡ 8
  pub rows : device.rows ≡ 1
