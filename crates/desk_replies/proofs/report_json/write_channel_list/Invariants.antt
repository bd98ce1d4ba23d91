use Rattle.desk_replies.proofs.Prelude.{◌≡◌, ◌++◌, take, flat_map, json_tokens, channel_json}
use Rattle.desk_replies.proofs.report_json.write_channel_list.Given as goal

-- the ones before this one are written
abbrev pub invariant-loop-channel : goal.invariant-loop-channel
invariant-loop-channel l = l.pen ≡ l.initial.pen ++ flat_map (λ one. json_tokens (channel_json one)) (take l.channel-index l.channels)
