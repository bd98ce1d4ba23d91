use Rattle.std.proofs.Common.{ap}
use Rattle.std.specs.Prelude.{flat_map}
use Rattle.line_text.proofs.WritingLemmas.{all_same, part_first, part_same, part_then, writes_part, writes_same, writes_then}
use Rattle.device_report.specs.Text.{channel_line, tenancy_line}
use Rattle.device_report.proofs.text.write_report.Goals as goal

pub returns-in_err-write_tenancies : goal.returns-in_err-write_tenancies
returns-in_err-write_tenancies g c =
    writes_part _ c.from_residual.ensures.0 (part_first _ (part_same c.in_err-write_tenancies.ensures (ap (flat_map tenancy_line) c.deref.ensures.value)))

pub returns-in_err-write_columns : goal.returns-in_err-write_columns
returns-in_err-write_columns g c =
    writes_part _ c.from_residual-in_err-write_columns.ensures.0
    (part_then (all_same c.in_ok-write_tenancies.ensures (ap (flat_map tenancy_line) c.deref.ensures.value)) (part_first _ c.in_err-write_columns.ensures))

pub returns-in_err-write_widest : goal.returns-in_err-write_widest
returns-in_err-write_widest g c =
    writes_part _ c.from_residual-in_err-write_widest.ensures.0
    (part_then (all_same c.in_ok-write_tenancies.ensures (ap (flat_map tenancy_line) c.deref.ensures.value))
    (part_then c.in_ok-write_columns.ensures (part_first _ c.in_err-write_widest.ensures)))

pub returns : goal.returns
returns g c =
    writes_then (all_same c.in_ok-write_tenancies.ensures (ap (flat_map tenancy_line) c.deref.ensures.value)) _ _ c.write_channels.result
    (writes_then c.in_ok-write_columns.ensures _ _ c.write_channels.result
    (writes_then c.in_ok-write_widest.ensures _ _ c.write_channels.result
    (writes_same g.K.Sink.contents g.K.Sink.has_failed _ _ _ _ c.write_channels.result (ap (flat_map (channel_line c.args.report.now.size.tracks)) c.deref-2.ensures.value) c.write_channels.ensures)))
