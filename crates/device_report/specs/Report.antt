-- How full a device is.
use Rattle.std.specs.Prelude.{◌≡◌, List, map}
use Rattle.strips.specs.declared.placed_strip.PlacedStrip.{PlacedStrip}
use Rattle.device_lines.specs.declared.device.ListedDevice.{ListedDevice}
use Rattle.device_lines.specs.declared.tenancy.Tenancy.{Tenancy}
use Rattle.device_report.specs.declared.tenancies.TenancyUse.{TenancyUse}
use Rattle.device_report.specs.declared.report.Report.{Report}
use Rattle.device_report.specs.Channels.{AreFullest, channels_in}
use Rattle.device_report.specs.Columns.{IsColumnUse}
use Rattle.device_report.specs.Tenancies.{use_of}
use Rattle.device_report.specs.Widest.{IsWidest}

-- the strips of a device's live tenancies
abbrev pub strips_of : ListedDevice → List PlacedStrip
strips_of device = map (λ (tenancy : Tenancy). record { id = tenancy.id; offset = tenancy.offset; width = tenancy.width }) device.tenancies.items

-- what each of them uses
abbrev pub uses_of : ListedDevice → List TenancyUse
uses_of device = map (use_of device.size device.owned.items) device.tenancies.items

-- a report of a device: what each tenancy uses, which columns are used, the widest strip that would
-- be admitted, and the fullest channels
pub record IsReport (device : ListedDevice) (report : Report) : Type 0 where
  pub size : report.size ≡ device.size
  pub tenancies : report.tenancies.items ≡ uses_of device
  pub columns : IsColumnUse device.size.columns (strips_of device) report.columns
  pub widest : IsWidest (record { columns = device.size.columns; strips = strips_of device }) report.widest
  pub fullest : AreFullest (channels_in device.size.columns device.size.rows device.owned.items) report.fullest.items
