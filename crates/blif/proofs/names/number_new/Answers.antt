use Rattle.blif.proofs.Prelude.{◌≡◌, ◌++◌, ◌∷◌, [], ◌∙◌, ap, arith, common_steps}
use Rattle.blif.proofs.names.number_new.Goals as goal

pub returns-clause-numbers : goal.returns-clause-numbers
returns-clause-numbers c =
    let same : c.in-Ok.number ≡ c.in_ok-place.place = grind (arith, common_steps) in
    c.in_ok-push.ensures ∙ ap (λ n. c.args.numbers.now ++ n ∷ []) (same ∙ c.in_ok-place.ensures.number)
