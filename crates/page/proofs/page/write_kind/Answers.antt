use Rattle.page.proofs.Prelude.{ap, flat_map, part_first, writes_part, writes_same, writes_then, escape_of}
use Rattle.page.proofs.page.write_kind.Goals as goal

pub returns-in_err-write_parts : goal.returns-in_err-write_parts
returns-in_err-write_parts g c = writes_part _ c.from_residual.ensures.0 (part_first _ c.in_err-write_parts.ensures)

pub returns : goal.returns
returns g c =
    writes_then c.in_ok-write_parts.ensures _ _ c.write_shown.result
    (writes_same g.K.Sink.contents g.K.Sink.has_failed _ _ _ _ c.write_shown.result (ap (flat_map escape_of) c.as_bytes.ensures.value) c.write_shown.ensures)
