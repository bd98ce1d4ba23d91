use Rattle.std.proofs.lemmas.Option.{slice_get-get_or}
use Rattle.line_text.proofs.WritingLemmas.{all_loop, part_loop, writes_part}
use Rattle.device_report.specs.declared.channels.ChannelDirection.TheVariants.{Across}
use Rattle.device_report.specs.declared.channels.ChannelUse.{ChannelUse}
use Rattle.device_report.specs.Text.{channel_line}
use Rattle.device_report.proofs.text.write_channels.Goals as goal

-- the channel for an index beyond the list
abbrev none : ChannelUse
none = record { x = 0; direction = Across; y = 0; wires = 0 }

pub returns-in_err-write_channel : goal.returns-in_err-write_channel
returns-in_err-write_channel g c =
    writes_part _ c.from_residual.ensures.0
    (part_loop (channel_line c.args.tracks) c.args.channels.now c.loop-channel.channel-index _ (slice_get-get_or _ _ none c.loop-channel-test.true) c.loop-channel.invariant c.in_err-write_channel.ensures)

pub loop-channel-preserved : goal.loop-channel-preserved
loop-channel-preserved g c =
    all_loop (channel_line c.args.tracks) c.args.channels.now c.loop-channel.channel-index _ (slice_get-get_or _ _ none c.loop-channel-test.true) c.loop-channel.invariant c.in_ok-write_channel.ensures
