use Rattle.std.proofs.Common.{sym}
use Rattle.line_text.proofs.WritingLemmas.{part_first, part_then, writes_part, writes_then}
use Rattle.completions.proofs.fish.write_quoted.Goals as goal

pub returns-in_err-write_parts : goal.returns-in_err-write_parts
returns-in_err-write_parts g c = writes_part _ c.from_residual.ensures.0 (part_first _ c.in_err-write_parts.ensures)

pub returns-in_err-write_bytes : goal.returns-in_err-write_bytes
returns-in_err-write_bytes g c = rw (sym c.as_bytes.ensures.value) (writes_part _ c.from_residual-in_err-write_bytes.ensures.0 (part_then c.in_ok-write_parts.ensures (part_first _ c.in_err-write_bytes.ensures)))

pub returns : goal.returns
returns g c = rw (sym c.as_bytes.ensures.value) (writes_then c.in_ok-write_parts.ensures _ _ c.write_parts-2.result (writes_then c.in_ok-write_bytes.ensures _ _ c.write_parts-2.result c.write_parts-2.ensures))
