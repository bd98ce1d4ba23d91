use Rattle.configuration_text.proofs.Prelude.{◌++◌, List, map, ap, IfOk-equal, JoinedLine, bit_digit, row_words, values_below}
use Rattle.configuration_text.proofs.bits.push_values.Goals as goal

pub returns : goal.returns
returns c =
    IfOk-equal c.push_rows.result _ _ _ c.push_rows.ensures
    (ap (λ (lines : List JoinedLine). c.args.text.now.items ++ map bit_digit (values_below c.args.count (row_words lines) c.args.table.inputs.now c.args.nets.now)) c.first_row-first.ensures)
