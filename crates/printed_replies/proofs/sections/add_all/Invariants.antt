use Rattle.printed_replies.proofs.Prelude.{◌≡◌, Some, None, map, take, asked_line, places_of}
use Rattle.printed_replies.proofs.sections.add_all.Given as goal

-- the places of the lines so far
abbrev pub invariant-loop-place : goal.invariant-loop-place
invariant-loop-place l = record {
  operator : l.operator.items ≡ places_of None (take l.place (map asked_line l.asked));
  sessions : map (λ places. places.items) l.sessions.items ≡ map (λ name. places_of (Some name) (take l.place (map asked_line l.asked))) l.names;
}
