use Rattle.line_text.proofs.Prelude.{[], ℕ, List, Bor, slice_get-get_or}
use Rattle.line_text.proofs.WritingLemmas.{part_loop, writes_part}
use Rattle.line_text.proofs.writing.write_slices.Goals as goal

pub returns-in_err-write_all : goal.returns-in_err-write_all
returns-in_err-write_all g c =
    let none : Bor (List ℕ) = record { ref_ptr = (0, 0); now = [] } in
    let w = c.in_err-write_all.ensures in
    writes_part _ c.from_residual.ensures.0
    (part_loop (λ (part : Bor (List ℕ)). part.now) _ c.loop-part.part-index _ (slice_get-get_or _ _ none c.loop-part-test.true) c.loop-part.invariant
    (record { count = w.err.0; within = w.err.1; bytes = w.err.2; fails = w.fails }))
