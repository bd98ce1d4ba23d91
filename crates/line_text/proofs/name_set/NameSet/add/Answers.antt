use Rattle.line_text.proofs.Prelude.{◌∙◌, ap, not, has_name, with_name, texts}
use Rattle.line_text.proofs.NameLemmas.{has_name-texts, with_name-texts}
use Rattle.line_text.proofs.name_set.NameSet.add.Goals as goal

pub returns-clause-new : goal.returns-clause-new
returns-clause-new c =
    c.in_ok-insert.ensures.added
    ∙ ap not (has_name-texts c.self.inside.names.keys c.args.name.now ∙ ap (λ ns. has_name ns c.args.name.now) c.self.view_is)

pub returns-clause-names : goal.returns-clause-names
returns-clause-names c =
    ap texts c.in_ok-insert.ensures.keys
    ∙ with_name-texts c.self.inside.names.keys c.args.name
    ∙ ap (λ ns. with_name ns c.args.name.now) c.self.view_is
