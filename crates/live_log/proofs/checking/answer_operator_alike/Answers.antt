use Rattle.live_log.proofs.Prelude.{◌≡◌, [], ◌∷◌, true, codes}
use Rattle.live_log.proofs.AlikeSteps.{alike_after}
use Rattle.live_log.proofs.checking.answer_operator_alike.Goals as goal

pub returns-clause-alike : goal.returns-clause-alike
returns-clause-alike g c =
    alike_after g.A.Answers.answers (λ alike. alike ≡ true) (codes "op list" ∷ []) (codes "op owners" ∷ [])
    c.answer_alike-2.result c.args.whole.now c.args.short.now c.answer_alike.new.whole c.answer_alike.new.short c.answer_alike-2.new.whole c.answer_alike-2.new.short
    (c.in_ok-answer_alike.ensures.alike c.if-not-branch.false) c.answer_alike-2.ensures.alike
