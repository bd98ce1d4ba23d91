use Rattle.strip_picture.proofs.Prelude.{slice_get-get_or, all_loop, part_loop, writes_part, Across, ChannelTracks, number_text}
use Rattle.strip_picture.proofs.heat.write_numbers.Goals as goal

-- the channel for an index beyond the list
abbrev none : ChannelTracks
none = record { direction = Across; x = 0; y = 0; tracks = 0 }

pub returns-in_err-write_number : goal.returns-in_err-write_number
returns-in_err-write_number g c =
    writes_part _ c.from_residual.ensures.0
    (part_loop (number_text c.args.lattice) _ c.loop-channel.channel-index _ (slice_get-get_or _ _ none c.loop-channel-test.true) c.loop-channel.invariant c.in_err-write_number.ensures)

pub loop-channel-preserved : goal.loop-channel-preserved
loop-channel-preserved g c =
    all_loop (number_text c.args.lattice) c.args.channels.now c.loop-channel.channel-index _ (slice_get-get_or _ _ none c.loop-channel-test.true) c.loop-channel.invariant c.in_ok-write_number.ensures
