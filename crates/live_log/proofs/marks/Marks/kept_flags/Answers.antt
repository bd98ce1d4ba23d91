use Rattle.live_log.proofs.Prelude.{◌+◌, ◌++◌, ◌∷◌, [], get_or, take, subst, sym, take_all, take_more, FitFlags, Kept}
use Rattle.live_log.proofs.ChoiceSteps.{fit_push}
use Rattle.live_log.proofs.marks.Marks.kept_flags.Goals as goal

pub loop-mark-preserved : goal.loop-mark-preserved
loop-mark-preserved c =
    let items = c.as_slice-mark-items.result.now in
    let place = c.loop-mark.mark-index in
    subst (λ flags. FitFlags (take (place + 1) items) flags) (sym c.in_ok-push.ensures.items)
    (subst (λ marks. FitFlags marks (c.loop-mark.kept.items ++ c.is_kept.result ∷ [])) (sym (take_more items place Kept c.loop-mark-test.true))
    (fit_push (take place items) c.loop-mark.kept.items (get_or items place Kept) c.is_kept.result c.loop-mark.invariant c.is_kept.ensures))

pub returns : goal.returns
returns c = subst (λ marks. FitFlags marks c.loop-mark.kept.items) c.as_slice-mark-items.ensures.value (subst (λ marks. FitFlags marks c.loop-mark.kept.items) (take_all c.loop-mark.mark-index c.as_slice-mark-items.result.now c.loop-mark-test.false) c.loop-mark.invariant)
