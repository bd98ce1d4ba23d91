use Rattle.script_replies.proofs.Prelude.{◌≡◌, ◌++◌, take, map, answered_line, line_replies, line_reply}
use Rattle.script_replies.proofs.listing.Listing.add_all.Given as goal

-- the lines so far
abbrev pub invariant-loop-place : goal.invariant-loop-place
invariant-loop-place l = map line_reply l.self.told.items ≡ map line_reply l.fn.self.told.items ++ take l.place (line_replies l.lines (map answered_line l.answers))
