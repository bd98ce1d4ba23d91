use Rattle.std.proofs.Common.{◌∙◌, List, refl, subst}
use Rattle.strips.specs.declared.placed_strip.PlacedStrip.{PlacedStrip}
use Rattle.device_lines.specs.declared.device.OwnedResource.{OwnedResource}
use Rattle.device_report.specs.Channels.{AreFullest, channels_in}
use Rattle.device_report.specs.Columns.{IsColumnUse}
use Rattle.device_report.specs.Widest.{IsWidest}
use Rattle.device_report.proofs.report.Report.new.Goals as goal

pub returns : goal.returns
returns c =
    let size = c.args.device.now.size in
    record {
      size = refl;
      tenancies = c.in_ok-uses_of.ensures;
      columns = subst (λ (strips : List PlacedStrip). IsColumnUse size.columns strips c.of.result) (c.deref.ensures.value ∙ c.in_ok-strips.ensures.value) c.of.ensures;
      widest = subst (λ (strips : List PlacedStrip). IsWidest (record { columns = size.columns; strips = strips }) c.widest_strip.result) (c.deref-2.ensures.value ∙ c.in_ok-strips.ensures.value) c.widest_strip.ensures;
      fullest = subst (λ (owned : List OwnedResource). AreFullest (channels_in size.columns size.rows owned) c.in_ok-fullest_channels.field-0.items) c.deref-3.ensures.value c.in_ok-fullest_channels.ensures;
    }
