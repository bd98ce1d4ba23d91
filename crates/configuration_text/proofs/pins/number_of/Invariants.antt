use Rattle.configuration_text.proofs.Numbers.{IsSearched}
use Rattle.configuration_text.proofs.pins.number_of.Given as goal

abbrev pub invariant-loop-number : goal.invariant-loop-number
invariant-loop-number l = IsSearched l.nets l.net l.number
