use Rattle.configuration_text.proofs.Prelude.{◌∙◌, sym, arith, value_in}
use Rattle.configuration_text.proofs.Rows.{agree_end}
use Rattle.configuration_text.proofs.row_values.all_agree.Goals as goal

pub returns : goal.returns
returns c = sym (agree_end (value_in c.args.nets.now c.args.number) c.args.pattern.now c.args.inputs.now c.loop-place.place (omega (arith, c.min-place-end.ensures, c.loop-place-test.false))) ∙ c.loop-place.invariant
