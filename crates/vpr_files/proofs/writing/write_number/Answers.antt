use Rattle.vpr_files.proofs.Prelude.{◌∙◌, ◌++◌, ap, append-nil, writes_same}
use Rattle.vpr_files.proofs.writing.write_number.Goals as goal

pub returns : goal.returns
returns g c = writes_same g.W.Sink.contents g.W.Sink.has_failed _ _ _ _ _ (ap (λ digits. c.args.before.now ++ digits) (append-nil _ ∙ c.as_bytes.ensures.value ∙ c.format.ensures.text)) c.write_slices.ensures
