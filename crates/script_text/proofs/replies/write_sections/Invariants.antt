use Rattle.script_text.proofs.Prelude.{take, flat_map, TakesAll, section_of, section_text}
use Rattle.script_text.proofs.replies.write_sections.Given as goal

-- the sections before this one are written
abbrev pub invariant-loop-section : goal.invariant-loop-section
invariant-loop-section g l =
    TakesAll g.W.Sink.contents g.W.Sink.has_failed l.initial.writer l.writer (flat_map (λ s. section_text (section_of s)) (take l.section-index l.sections))
