use Rattle.configuration_text.proofs.Prelude.{◌≡◌, true, false, rules, map, kind_of, is_row_kind, applies, value_in}
use Rattle.configuration_text.proofs.Rows.{any_ended, any_here, any_later}
use Rattle.configuration_text.proofs.row_values.any_applies.Goals as goal

pub returns-then-not-is_row : goal.returns-then-not-is_row
returns-then-not-is_row c =
    let no : is_row_kind (kind_of c.line-line.result) ≡ false = search rules in
    any_ended (map (value_in c.args.nets.now c.args.number) c.args.inputs.now) c.args.netlist.now c.loop-place.place c.line-line.result c.line-line.ensures no _ c.loop-place.invariant

pub returns-then-applies : goal.returns-then-applies
returns-then-applies c =
    let values = map (value_in c.args.nets.now c.args.number) c.args.inputs.now in
    let yes : is_row_kind (kind_of c.line-line.result) ≡ true = search rules in
    let here : applies values c.line-line.result.words ≡ true = search rules in
    any_here values c.args.netlist.now c.loop-place.place c.line-line.result c.line-line.ensures yes here _ c.loop-place.invariant

pub loop-place-preserved : goal.loop-place-preserved
loop-place-preserved c =
    let values = map (value_in c.args.nets.now c.args.number) c.args.inputs.now in
    let yes : is_row_kind (kind_of c.line-line.result) ≡ true = search rules in
    let here : applies values c.line-line.result.words ≡ false = search rules in
    any_later values c.args.netlist.now c.loop-place.place c.line-line.result c.line-line.ensures yes here _ c.loop-place.invariant
