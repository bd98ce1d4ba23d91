use Rattle.live_lines.proofs.Prelude.{◌∙◌, [], ◌∷◌, refl, Take, lengths-run}
use Rattle.live_lines.proofs.live.Live.take_job.Goals as goal

pub returns-clause-steady : goal.returns-clause-steady
returns-clause-steady c = record {
  ids = c.requires.steady.ids ∙ lengths-run c.args.self.now.core c.take.new.self (Take c.args.id c.take.result ∷ []) (tt, tt) (c.take.new.self, c.take.ensures, refl);
  said = c.requires.steady.said;
}
