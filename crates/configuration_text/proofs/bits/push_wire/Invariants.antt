use Rattle.configuration_text.proofs.Prelude.{bit_of}
use Rattle.configuration_text.proofs.Rest.{AreBitsLeft}
use Rattle.configuration_text.proofs.bits.push_wire.Given as goal

abbrev pub invariant-loop-number : goal.invariant-loop-number
invariant-loop-number l = AreBitsLeft (λ number. bit_of number 0) l.count l.number l.text.items l.initial.text.items
