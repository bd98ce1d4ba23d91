use Rattle.desk_replies.proofs.Prelude.{Across, ChannelUse, ap, channel_json, flat_map, json_tokens, list_written, ok_then, one_more, slice_get-get_or, take_all, ◌++◌, ◌∙◌}
use Rattle.desk_replies.proofs.report_json.write_channel_list.Goals as goal

pub loop-channel-preserved : goal.loop-channel-preserved
loop-channel-preserved c =
    let channels = c.args.channels.now in
    let at = c.loop-channel.channel-index in
    let none : ChannelUse = record { x = 0; direction = Across; y = 0; wires = 0 } in
    one_more (λ one. json_tokens (channel_json one)) channels at _ c.open_list.new.self c.loop-channel.pen c.write_channel.new.pen (slice_get-get_or channels at none c.loop-channel-test.true) c.loop-channel.invariant c.in_ok-write_channel.ensures

pub returns : goal.returns
returns c =
    let xs = c.args.channels.now in
    ok_then c.close_list.result
    (list_written channel_json xs c.args.pen.now c.open_list.new.self c.loop-channel.pen c.close_list.new.self c.in_ok-open_list.ensures
    (c.loop-channel.invariant ∙ ap (λ ys. c.open_list.new.self ++ flat_map (λ one. json_tokens (channel_json one)) ys) (take_all c.loop-channel.channel-index xs c.loop-channel-test.false)))
    c.close_list.ensures
