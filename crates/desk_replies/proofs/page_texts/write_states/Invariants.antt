use Rattle.desk_replies.proofs.Prelude.{take, TakesAll, line_of, state_after}
use Rattle.std.specs.Prelude.{flat_map}
use Rattle.desk_replies.proofs.page_texts.write_states.Given as goal

-- the lines before this one are written
abbrev pub invariant-loop-place : goal.invariant-loop-place
invariant-loop-place g l =
    TakesAll g.W.Sink.contents g.W.Sink.has_failed l.initial.sink l.sink (flat_map (λ one. line_of l.told (state_after one.1)) (take l.place l.last.entries))
