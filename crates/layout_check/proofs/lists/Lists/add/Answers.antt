use Rattle.layout_check.proofs.Prelude.{◌<◌, ◌∙◌, ◌++◌, [], ◌∷◌, List, ℕ, ap, length, set, subst, sym, list_at}
use Rattle.layout_check.proofs.ByNet.{added_to}
use Rattle.layout_check.proofs.lists.Lists.add.Goals as goal

pub returns : goal.returns
returns c =
    added_to c.self.inside.lists.items (λ list. list.items) c.args.number c.args.item c.index_mut.result.now c.push.new.self (subst (λ (ls : List (List ℕ)). c.args.number < length ls) (sym c.self.view_is) c.requires)
    c.index_mut.ensures.value c.in_ok-push.ensures.items
    ∙ ap (λ (ls : List (List ℕ)). set ls c.args.number (list_at ls c.args.number ++ c.args.item ∷ [])) c.self.view_is
