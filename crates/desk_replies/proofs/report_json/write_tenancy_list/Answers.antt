use Rattle.desk_replies.proofs.Prelude.{Some, ap, flat_map, json_tokens, list_written, ok_then, one_more, slice_get, slice_get-get_or, sym, take_all, tenancy_json, ◌++◌, ◌∙◌, ◌≡◌}
use Rattle.desk_replies.proofs.report_json.write_tenancy_list.Goals as goal

pub loop-one-preserved : goal.loop-one-preserved
loop-one-preserved c =
    let xs = c.args.facts.now in
    let at = c.loop-one.one-index in
    let here : slice_get xs at ≡ Some c.one-item.result = slice_get-get_or _ _ c.one-item.result c.loop-one-test.true ∙ ap Some (sym c.one-item.is) in
    one_more (λ one. json_tokens (tenancy_json one)) xs at c.one-item.result c.open_list.new.self c.loop-one.pen c.write_tenancy.new.pen here c.loop-one.invariant c.in_ok-write_tenancy.ensures

pub returns : goal.returns
returns c =
    let xs = c.args.facts.now in
    ok_then c.close_list.result
    (list_written tenancy_json xs c.args.pen.now c.open_list.new.self c.loop-one.pen c.close_list.new.self c.in_ok-open_list.ensures
    (c.loop-one.invariant ∙ ap (λ ys. c.open_list.new.self ++ flat_map (λ one. json_tokens (tenancy_json one)) ys) (take_all c.loop-one.one-index xs c.loop-one-test.false)))
    c.close_list.ensures
