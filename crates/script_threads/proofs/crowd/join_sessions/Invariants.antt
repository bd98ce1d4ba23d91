use Rattle.script_threads.proofs.Prelude.{◌≡◌, IfSome, map, started_by, asked_in}
use Rattle.script_threads.proofs.crowd.join_sessions.Given as goal

-- the parts so far are those of the sessions so far
abbrev pub invariant-loop-session : goal.invariant-loop-session
invariant-loop-session g l = IfSome l.parts (λ parts. map asked_in parts.items ≡ map started_by l.yielded)
