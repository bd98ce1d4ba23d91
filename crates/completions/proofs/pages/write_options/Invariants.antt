use Rattle.std.proofs.Common.{take}
use Rattle.std.specs.List.{flat_map}
use Rattle.line_text.specs.Writing.{TakesAll}
use Rattle.completions.specs.Pages.{page_option}
use Rattle.completions.proofs.pages.write_options.Given as goal

-- the ones before this one are written
abbrev pub invariant-loop-option : goal.invariant-loop-option
invariant-loop-option g l = TakesAll g.K.Sink.contents g.K.Sink.has_failed l.initial.sink l.sink (flat_map page_option (take l.option-index l.options))
