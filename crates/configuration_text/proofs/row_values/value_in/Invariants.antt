use Rattle.configuration_text.proofs.Prelude.{◌≡◌, drop, value_in}
use Rattle.configuration_text.proofs.row_values.value_in.Given as goal

abbrev pub invariant-loop-other : goal.invariant-loop-other
invariant-loop-other l = value_in (drop l.other-index l.nets) l.rest l.net ≡ value_in l.nets l.number l.net
