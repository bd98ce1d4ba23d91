use Rattle.std.proofs.Common.{ℕ, List, [], Bor}
use Rattle.std.proofs.lemmas.Option.{slice_get-get_or}
use Rattle.line_text.proofs.WritingLemmas.{part_loop, writes_part}
use Rattle.text_parts.specs.declared.parts.Part.TheVariants.{Text}
use Rattle.text_parts.specs.Parts.{bytes_of_part}
use Rattle.text_parts.proofs.parts.write_parts.Goals as goal

pub returns-in_err-write_part : goal.returns-in_err-write_part
returns-in_err-write_part g c =
    let none : Bor (List ℕ) = record { ref_ptr = (0, 0); now = [] } in
    writes_part _ c.from_residual.ensures.0
    (part_loop bytes_of_part _ c.loop-part.part-index _ (slice_get-get_or _ _ (Text none) c.loop-part-test.true) c.loop-part.invariant c.in_err-write_part.ensures)
