use Rattle.live_lines.proofs.Prelude.{◌∙◌, [], ◌∷◌, refl, GiveBack, lengths-run}
use Rattle.live_lines.proofs.live.Live.give_back.Goals as goal

pub returns-clause-steady : goal.returns-clause-steady
returns-clause-steady c = record {
  ids = c.requires.steady.ids ∙ lengths-run c.args.self.now.core c.give_back.new.self (GiveBack c.args.back ∷ []) (tt, tt) (c.give_back.new.self, c.give_back.ensures, refl);
  said = c.requires.steady.said;
}
