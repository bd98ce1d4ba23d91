use Rattle.configuration_text.proofs.Prelude.{drop, map, value_in, value_of, row_words}
use Rattle.configuration_text.proofs.Rest.{AreBitsLeft}
use Rattle.configuration_text.proofs.bits.push_rows.Given as goal

abbrev pub invariant-loop-number : goal.invariant-loop-number
invariant-loop-number l = AreBitsLeft (λ number. value_of (row_words (drop l.first l.netlist)) (map (value_in l.nets number) l.inputs)) l.count l.number l.text.items l.initial.text.items
