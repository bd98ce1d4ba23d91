use Rattle.desk_replies.proofs.Prelude.{part_first, writes_part, writes_then}
use Rattle.desk_replies.proofs.report_paths.write_path_headings.Goals as goal

pub returns-in_err-write_heading_fields : goal.returns-in_err-write_heading_fields
returns-in_err-write_heading_fields g c =
    writes_part _ c.from_residual.ensures.0
    (part_first _ c.in_err-write_heading_fields.ensures)

pub returns : goal.returns
returns g c =
    writes_then c.in_ok-write_heading_fields.ensures _ _ c.write_parts.result
    (c.write_parts.ensures)
