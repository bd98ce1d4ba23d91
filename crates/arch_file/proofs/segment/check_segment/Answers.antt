use Rattle.arch_file.proofs.Prelude.{◌∙◌, ap, ◌%◌, length, sym, length-map}
use Rattle.arch_file.proofs.SegmentLemmas.{segment_faults-odd}
use Rattle.arch_file.proofs.segment.check_segment.Goals as goal

pub returns-then-words-eq1 : goal.returns-then-words-eq1
returns-then-words-eq1 c =
    segment_faults-odd c.args.is_second c.args.line.now.words (ap (λ words. length words % 2) (sym c.words.ensures) ∙ ap (λ n. n % 2) (length-map c.words.result.now (λ w. w.now)) ∙ c.if-words-eq1.true)
