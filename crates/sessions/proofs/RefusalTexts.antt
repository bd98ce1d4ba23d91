-- A session's refusal as a line, by its number and its name.
use Rattle.sessions.proofs.Prelude.{◌≡◌, [], arith, SessionRefusal, numbered_line, session_refusal_name, session_refusal_number, session_refusal_text}
use Rattle.std.specs.Prelude.{codes}

pub refusal_line : (refusal : SessionRefusal) → session_refusal_text refusal ≡ numbered_line (codes "line") (session_refusal_number refusal) (session_refusal_name refusal) []
refusal_line refusal = grind arith
