use Rattle.desk_replies.proofs.Prelude.{Some, ap, flat_map, json_tokens, list_written, node_json, ok_then, one_more, slice_get, slice_get-get_or, sym, take_all, ◌++◌, ◌∙◌, ◌≡◌}
use Rattle.desk_replies.proofs.crowding_json.write_list.Goals as goal

pub loop-crowded-preserved : goal.loop-crowded-preserved
loop-crowded-preserved c =
    let xs = c.args.nodes.now in
    let at = c.loop-crowded.crowded-index in
    let here : slice_get xs at ≡ Some c.crowded-item.result = slice_get-get_or _ _ c.crowded-item.result c.loop-crowded-test.true ∙ ap Some (sym c.crowded-item.is) in
    one_more (λ one. json_tokens (node_json c.args.crowding.now.packed one)) xs at c.crowded-item.result c.open_list.new.self c.loop-crowded.pen c.write_node.new.pen here c.loop-crowded.invariant c.in_ok-write_node.ensures

pub returns : goal.returns
returns c =
    let xs = c.args.nodes.now in
    ok_then c.close_list.result
    (list_written (node_json c.args.crowding.now.packed) xs c.args.pen.now c.open_list.new.self c.loop-crowded.pen c.close_list.new.self c.in_ok-open_list.ensures
    (c.loop-crowded.invariant ∙ ap (λ ys. c.open_list.new.self ++ flat_map (λ one. json_tokens (node_json c.args.crowding.now.packed one)) ys) (take_all c.loop-crowded.crowded-index xs c.loop-crowded-test.false)))
    c.close_list.ensures
