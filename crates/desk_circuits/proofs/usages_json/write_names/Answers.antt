use Rattle.desk_circuits.proofs.Prelude.{◌≡◌, ◌∙◌, Some, ap, sym, slice_get, slice_get-get_or, json_tokens, one_more, name_json}
use Rattle.desk_circuits.proofs.usages_json.write_names.Goals as goal

pub loop-facts-preserved : goal.loop-facts-preserved
loop-facts-preserved c =
    let xs = c.args.names.now in
    let at = c.loop-facts.facts-index in
    let here : slice_get xs at ≡ Some c.facts-item.result = slice_get-get_or _ _ c.facts-item.result c.loop-facts-test.true ∙ ap Some (sym c.facts-item.is) in
    one_more (λ one. json_tokens (name_json one)) xs at c.facts-item.result c.args.pen.now c.loop-facts.pen c.write_name.new.pen here c.loop-facts.invariant c.in_ok-write_name.ensures
