use Rattle.configuration_text.proofs.Prelude.{ℕ, Bool, drop, map, value_in, value_of, row_words}
use Rattle.configuration_text.proofs.Rest.{bits_end, bits_more, bits_none}
use Rattle.configuration_text.proofs.bits.push_rows.Goals as goal

pub loop-number-init : goal.loop-number-init
loop-number-init c =
    let value : ℕ → Bool = λ number. value_of (row_words (drop c.args.first c.args.netlist.now)) (map (value_in c.args.nets.now number) c.args.inputs.now) in
    bits_none value c.args.count c.args.text.now.items

pub loop-number-preserved : goal.loop-number-preserved
loop-number-preserved c =
    let value : ℕ → Bool = λ number. value_of (row_words (drop c.args.first c.args.netlist.now)) (map (value_in c.args.nets.now number) c.args.inputs.now) in
    bits_more value c.args.count c.loop-number.number c.loop-number.text.items c.args.text.now.items c.push_bit.new.text.items c.value_of.result c.loop-number-test.true c.loop-number.invariant c.in_ok-push_bit.ensures c.value_of.ensures

pub returns : goal.returns
returns c =
    let value : ℕ → Bool = λ number. value_of (row_words (drop c.args.first c.args.netlist.now)) (map (value_in c.args.nets.now number) c.args.inputs.now) in
    bits_end value c.args.count c.loop-number.number c.loop-number.text.items c.args.text.now.items c.loop-number-test.false c.loop-number.invariant
