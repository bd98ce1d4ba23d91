use Rattle.line_text.proofs.Prelude.{◌∙◌, ap, has_name}
use Rattle.line_text.proofs.NameLemmas.{has_name-texts}
use Rattle.line_text.proofs.name_set.NameSet.contains.Goals as goal

pub returns : goal.returns
returns c =
    c.contains.ensures ∙ has_name-texts c.self.inside.names.keys c.args.name.now
    ∙ ap (λ ns. has_name ns c.args.name.now) c.self.view_is
