use Rattle.std.proofs.Common.{take}
use Rattle.std.specs.Prelude.{flat_map}
use Rattle.line_text.specs.Writing.{TakesAll}
use Rattle.device_report.specs.Text.{channel_line}
use Rattle.device_report.proofs.text.write_channels.Given as goal

-- the lines before this one are written
abbrev pub invariant-loop-channel : goal.invariant-loop-channel
invariant-loop-channel g l = TakesAll g.K.Sink.contents g.K.Sink.has_failed l.initial.sink l.sink (flat_map (channel_line l.tracks) (take l.channel-index l.channels))
