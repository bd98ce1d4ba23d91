use Rattle.live_threads.proofs.LineLemmas.{kept_part, kept_short}
use Rattle.live_threads.proofs.serving.cut_line.Goals as goal

pub returns-in-Some : goal.returns-in-Some
returns-in-Some c = kept_part c.args.line.now _ c.in-Some.ensures.lookup.0.2

pub returns-in-None : goal.returns-in-None
returns-in-None c = kept_short c.args.line.now c.in-None.ensures.lookup.0
