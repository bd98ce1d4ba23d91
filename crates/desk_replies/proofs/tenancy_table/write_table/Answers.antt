use Rattle.desk_replies.proofs.Prelude.{ap, part_first, writes_part, writes_same, writes_then, row_text}
use Rattle.std.specs.Prelude.{flat_map}
use Rattle.desk_replies.proofs.tenancy_table.write_table.Goals as goal

pub returns-in_err-write_headings : goal.returns-in_err-write_headings
returns-in_err-write_headings g c = writes_part _ c.from_residual.ensures.0 (part_first _ c.in_err-write_headings.ensures)

pub returns : goal.returns
returns g c =
    writes_then c.in_ok-write_headings.ensures _ _ c.write_rows.result
    (writes_same g.K.Sink.contents g.K.Sink.has_failed _ _ _ _ c.write_rows.result (ap (flat_map row_text) c.deref.ensures.value) c.write_rows.ensures)
