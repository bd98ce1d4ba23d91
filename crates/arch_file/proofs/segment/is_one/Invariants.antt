use Rattle.arch_file.proofs.Prelude.{◌≡◌, ◌*◌, drop, is_one, values_under, texts}
use Rattle.arch_file.proofs.SegmentLemmas.{is_one_still}
use Rattle.arch_file.proofs.segment.is_one.Given as goal

abbrev pub invariant-loop-pair : goal.invariant-loop-pair
invariant-loop-pair l =
    is_one_still l.is_found (values_under l.key (drop (2 * l.pair) (texts l.words))) ≡ is_one (values_under l.key (texts l.words))
