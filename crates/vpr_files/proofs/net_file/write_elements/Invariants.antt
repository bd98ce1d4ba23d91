use Rattle.vpr_files.proofs.Prelude.{take, flat_map, elements_in, line_of, element_line, TakesAll}
use Rattle.vpr_files.proofs.net_file.write_elements.Given as goal

-- the lines of the BLEs before this one are written
abbrev pub invariant-loop-number : goal.invariant-loop-number
invariant-loop-number g l = TakesAll g.W.Sink.contents g.W.Sink.has_failed l.initial.sink l.sink (flat_map (λ element. line_of (element_line l.packed l.cluster element)) (take l.number-index (elements_in l.packed l.cluster)))
