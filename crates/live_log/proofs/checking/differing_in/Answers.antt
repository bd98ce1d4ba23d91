use Rattle.live_log.proofs.Prelude.{◌≡◌, [], ◌∷◌, None, codes, sym, physical_lines, questions_to, with_speakers}
use Rattle.live_log.proofs.AlikeSteps.{alike_after}
use Rattle.live_log.proofs.checking.differing_in.Goals as goal

pub returns : goal.returns
returns g c =
    alike_after g.A.Answers.answers (λ differing. differing ≡ None) (codes "op list" ∷ codes "op owners" ∷ []) (questions_to (with_speakers [] (physical_lines c.args.log.now)))
    c.first_differing.result c.args.whole.now c.args.short.now c.answer_operator_alike.new.whole c.answer_operator_alike.new.short c.first_differing.new.whole c.first_differing.new.short
    (c.in_ok-answer_operator_alike.ensures.alike c.if-not-branch.false) (rw (sym c.in_ok-names.ensures) c.first_differing.ensures)
