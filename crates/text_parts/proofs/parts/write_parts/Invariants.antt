use Rattle.std.proofs.Common.{take}
use Rattle.std.specs.List.{flat_map}
use Rattle.line_text.specs.Writing.{TakesAll}
use Rattle.text_parts.specs.Parts.{bytes_of_part}
use Rattle.text_parts.proofs.parts.write_parts.Given as goal

-- the parts before this one are written
abbrev pub invariant-loop-part : goal.invariant-loop-part
invariant-loop-part g l = TakesAll g.K.Sink.contents g.K.Sink.has_failed l.initial.sink l.sink (flat_map bytes_of_part (take l.part-index l.parts))
