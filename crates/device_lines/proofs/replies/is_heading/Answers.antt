use Rattle.device_lines.proofs.Prelude.{◌∙◌, ap, is_some}
use Rattle.device_lines.proofs.ListLemmas.{some_mapped}
use Rattle.device_lines.proofs.replies.is_heading.Goals as goal

pub returns : goal.returns
returns c = c.is_some.ensures ∙ some_mapped (λ rest. rest.now) c.after_text.result ∙ ap is_some c.after_text.ensures
