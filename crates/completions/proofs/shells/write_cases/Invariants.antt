use Rattle.std.proofs.Common.{take}
use Rattle.std.specs.List.{flat_map}
use Rattle.line_text.specs.Writing.{TakesAll}
use Rattle.completions.specs.Shells.{case_text}
use Rattle.completions.proofs.shells.write_cases.Given as goal

-- the ones before this one are written
abbrev pub invariant-loop-tool : goal.invariant-loop-tool
invariant-loop-tool g l = TakesAll g.K.Sink.contents g.K.Sink.has_failed l.initial.sink l.sink (flat_map case_text (take l.tool-index l.tools))
