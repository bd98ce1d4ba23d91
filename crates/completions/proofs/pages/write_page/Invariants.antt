use Rattle.std.proofs.Common.{take}
use Rattle.std.specs.List.{flat_map}
use Rattle.line_text.specs.Writing.{TakesAll}
use Rattle.completions.specs.Pages.{page_tool}
use Rattle.completions.proofs.pages.write_page.Given as goal

-- the ones before this one are written
abbrev pub invariant-loop-tool : goal.invariant-loop-tool
invariant-loop-tool g l = TakesAll g.K.Sink.contents g.K.Sink.has_failed l.initial.sink l.sink (flat_map page_tool (take l.tool-index l.tools))
