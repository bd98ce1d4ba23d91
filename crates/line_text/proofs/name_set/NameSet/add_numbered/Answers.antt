use Rattle.line_text.proofs.Prelude.{◌∙◌, ap, texts, number_of, with_name}
use Rattle.line_text.proofs.NameLemmas.{number_of-texts, with_name-texts}
use Rattle.line_text.proofs.name_set.NameSet.add_numbered.Goals as goal

pub returns-clause-number : goal.returns-clause-number
returns-clause-number c =
    c.in_ok-number.ensures.index ∙ number_of-texts c.self.inside.names.keys c.args.name.now
    ∙ ap (λ ns. number_of ns c.args.name.now) c.self.view_is

pub returns-clause-names : goal.returns-clause-names
returns-clause-names c =
    ap texts c.in_ok-number.ensures.keys ∙ with_name-texts c.self.inside.names.keys c.args.name
    ∙ ap (λ ns. with_name ns c.args.name.now) c.self.view_is
