use Rattle.line_text.proofs.Prelude.{ℕ, List, Bor, take, flat_map, TakesAll}
use Rattle.line_text.proofs.writing.write_slices.Given as goal

-- the parts before this one are written
abbrev pub invariant-loop-part : goal.invariant-loop-part
invariant-loop-part g l = TakesAll g.W.Sink.contents g.W.Sink.has_failed l.initial.sink l.sink (flat_map (λ (part : Bor (List ℕ)). part.now) (take l.part-index l.parts))
