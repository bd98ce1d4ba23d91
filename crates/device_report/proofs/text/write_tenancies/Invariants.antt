use Rattle.std.proofs.Common.{take}
use Rattle.std.specs.Prelude.{flat_map}
use Rattle.line_text.specs.Writing.{TakesAll}
use Rattle.device_report.specs.Text.{tenancy_line}
use Rattle.device_report.proofs.text.write_tenancies.Given as goal

-- the lines before this one are written
abbrev pub invariant-loop-uses : goal.invariant-loop-uses
invariant-loop-uses g l = TakesAll g.K.Sink.contents g.K.Sink.has_failed l.initial.sink l.sink (flat_map tenancy_line (take l.uses-index l.tenancies))
