use Rattle.desk_replies.proofs.Prelude.{ap, flat_map, json_tokens, list_written, net_json, ok_then, take_all, ◌++◌, ◌∙◌}
use Rattle.desk_replies.proofs.crowding_json.write_net_list.Goals as goal

pub returns : goal.returns
returns c =
    let xs = c.args.nets.now in
    ok_then c.close_list.result
    (list_written (net_json c.args.crowding.now.packed) xs c.args.pen.now c.open_list.new.self c.loop-net.pen c.close_list.new.self c.in_ok-open_list.ensures
    (c.loop-net.invariant ∙ ap (λ ys. c.open_list.new.self ++ flat_map (λ one. json_tokens (net_json c.args.crowding.now.packed one)) ys) (take_all c.loop-net.net-index xs c.loop-net-test.false)))
    c.close_list.ensures
