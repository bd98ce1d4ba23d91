use Rattle.script_threads.proofs.CrowdLemmas.{joined}
use Rattle.script_threads.proofs.crowd.join_sessions.Goals as goal

pub loop-session-preserved : goal.loop-session-preserved
loop-session-preserved g c =
    joined c.with_part-parts.result c.loop-session.parts c.join_session-part.result c.loop-session.yielded c.in-Some.session c.with_part-parts.ensures c.join_session-part.ensures c.loop-session.invariant
