use Rattle.vpr_files.proofs.Prelude.{append-nil, writes_same}
use Rattle.vpr_files.proofs.writing.write_word.Goals as goal

pub returns : goal.returns
returns g c = writes_same g.W.Sink.contents g.W.Sink.has_failed _ _ _ _ _ (simp append-nil) c.write_slices.ensures
