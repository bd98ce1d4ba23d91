use Rattle.shared_core.proofs.Prelude.{rules, ◌≡◌, ◌++◌, ◌∷◌, [], sym, ◌∙◌, ap, no_marks}
use Rattle.shared_core.proofs.Wrapped.{replicate-push}
use Rattle.shared_core.proofs.wrapping.no_marks.Goals as goal

pub loop-id-preserved : goal.loop-id-preserved
loop-id-preserved c =
    let items : c.push.new.self.items ≡ c.loop-id.marks.items ++ no_marks ∷ [] = search rules in
    items ∙ (ap (λ xs. xs ++ no_marks ∷ []) c.loop-id.invariant ∙ sym (replicate-push c.loop-id._id no_marks))
