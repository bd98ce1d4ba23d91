use Rattle.configuration_text.proofs.Prelude.{◌≡◌, ◌∙◌, Bool, true, false, not, rules, map, cond, drop, sym, ap, list_any, gives_one, kind_of, row_words, is_row_kind, applies, value_in}
use Rattle.configuration_text.proofs.Rows.{no_value, value_by_first}
use Rattle.configuration_text.proofs.row_values.value_of.Goals as goal

pub returns-then-not-is_row : goal.returns-then-not-is_row
returns-then-not-is_row c =
    let row : is_row_kind (kind_of c.line-line.result) ≡ false = search rules in
    no_value (map (value_in c.args.nets.now c.args.number) c.args.inputs.now) c.args.netlist.now c.args.first c.line-line.result c.line-line.ensures row

pub returns-then-any_applies : goal.returns-then-any_applies
returns-then-any_applies c =
    let values = map (value_in c.args.nets.now c.args.number) c.args.inputs.now in
    let row : is_row_kind (kind_of c.line-line.result) ≡ true = search rules in
    let one = gives_one c.line-line.result.words in
    let any : list_any (applies values) (row_words (drop c.args.first c.args.netlist.now)) ≡ true = search rules in
    c.gives_one.ensures ∙ sym (value_by_first values c.args.netlist.now c.args.first c.line-line.result c.line-line.ensures row ∙ ap (λ (b : Bool). cond b one (not one)) any)

pub returns-else-any_applies : goal.returns-else-any_applies
returns-else-any_applies c =
    let values = map (value_in c.args.nets.now c.args.number) c.args.inputs.now in
    let row : is_row_kind (kind_of c.line-line.result) ≡ true = search rules in
    let one = gives_one c.line-line.result.words in
    let any : list_any (applies values) (row_words (drop c.args.first c.args.netlist.now)) ≡ false = search rules in
    ap (λ (b : Bool). not b) c.gives_one-else-any_applies.ensures ∙ sym (value_by_first values c.args.netlist.now c.args.first c.line-line.result c.line-line.ensures row ∙ ap (λ (b : Bool). cond b one (not one)) any)
