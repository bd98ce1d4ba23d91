use Rattle.desk_replies.proofs.Prelude.{take, TakesAll, row_text}
use Rattle.std.specs.Prelude.{flat_map}
use Rattle.desk_replies.proofs.tenancy_table.write_rows.Given as goal

-- the lines before this one are written
abbrev pub invariant-loop-uses : goal.invariant-loop-uses
invariant-loop-uses g l = TakesAll g.K.Sink.contents g.K.Sink.has_failed l.initial.sink l.sink (flat_map row_text (take l.uses-index l.tenancies))
