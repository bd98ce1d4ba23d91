use Rattle.front_run.proofs.ClosingLemmas.{closes_by}
use Rattle.front_run.proofs.closing.write_last.Goals as goal

pub returns : goal.returns
returns g c = closes_by (g.D.Dialogue.view c.args.client.now) (g.D.Dialogue.view c.write.new.self) c.args.closing c.text.result.now c.write.result c.text.ensures c.write.ensures
