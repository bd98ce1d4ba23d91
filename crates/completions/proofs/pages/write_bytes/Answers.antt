use Rattle.std.proofs.lemmas.Option.{slice_get-get_or}
use Rattle.line_text.proofs.WritingLemmas.{part_loop, writes_part}
use Rattle.completions.specs.Pages.{roff_byte}
use Rattle.completions.proofs.pages.write_bytes.Goals as goal

pub returns-in_err-write_byte : goal.returns-in_err-write_byte
returns-in_err-write_byte g c =
    writes_part _ c.from_residual.ensures.0
    (part_loop roff_byte _ c.loop-byte.byte-index _ (slice_get-get_or _ _ 0 c.loop-byte-test.true) c.loop-byte.invariant c.in_err-write_byte.ensures)
