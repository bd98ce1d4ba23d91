use Rattle.configuration_text.proofs.Prelude.{◌==◌, ◌%◌, sym, bit_of}
use Rattle.configuration_text.proofs.Rest.{bits_end, bits_more, bits_none}
use Rattle.configuration_text.proofs.NumberBits.{bit_first}
use Rattle.configuration_text.proofs.bits.push_wire.Goals as goal

pub loop-number-init : goal.loop-number-init
loop-number-init c = bits_none (λ number. bit_of number 0) c.args.count c.args.text.now.items

pub loop-number-preserved : goal.loop-number-preserved
loop-number-preserved c =
    let number = c.loop-number.number in
    bits_more (λ number. bit_of number 0) c.args.count number c.loop-number.text.items c.args.text.now.items c.push_bit.new.text.items (number % 2 == 1) c.loop-number-test.true c.loop-number.invariant c.in_ok-push_bit.ensures (sym (bit_first number))

pub returns : goal.returns
returns c = bits_end (λ number. bit_of number 0) c.args.count c.loop-number.number c.loop-number.text.items c.args.text.now.items c.loop-number-test.false c.loop-number.invariant
