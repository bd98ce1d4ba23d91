use Rattle.shared_core.proofs.Prelude.{◌≡◌, replicate, no_marks}
use Rattle.shared_core.proofs.wrapping.no_marks.Given as goal

abbrev pub invariant-loop-id : goal.invariant-loop-id
invariant-loop-id l = l.marks.items ≡ replicate l._id no_marks
