use Rattle.line_feed.specs.Feed.{ahead_of, line_of}
use Rattle.front_lines.specs.declared.service.FrontStop.TheVariants.{NoMemory}
use Rattle.front_run.specs.declared.outcome.Outcome.TheVariants.{Stopped}
use Rattle.front_run.proofs.ClosingLemmas.{serves_nothing}
use Rattle.front_run.proofs.serving.serve.Goals as goal

pub returns-in-Err-clause-served : goal.returns-in-Err-clause-served
returns-in-Err-clause-served g c = serves_nothing c.args.service.now.speaker (g.D.Dialogue.view c.args.client.now).remaining (g.Q.Requests.contents c.args.service.now.requests) (g.F.Dialogue.view c.args.service.now.replies).remaining (g.D.Dialogue.view c.args.client.now).output (ahead_of c.args.service.now.feed) (line_of c.args.service.now.feed) (Stopped NoMemory) c.requires.ahead c.requires.line (λ done. absurd (cc))
