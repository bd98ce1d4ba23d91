use Rattle.page.proofs.Prelude.{slice_get-get_or, part_loop, writes_part, escape_of}
use Rattle.page.proofs.shown.write_shown.Goals as goal

pub returns-in_err-write_byte : goal.returns-in_err-write_byte
returns-in_err-write_byte g c =
    writes_part _ c.from_residual.ensures.0
    (part_loop escape_of _ c.loop-byte.byte-index _ (slice_get-get_or _ _ 0 c.loop-byte-test.true) c.loop-byte.invariant c.in_err-write_byte.ensures)
