use Rattle.line_text.proofs.Prelude.{◌^◌, ◌≤◌, length, arith}
use Rattle.line_text.proofs.DecimalLemmas.{no_digits, no_fraction, scaled, ten_to-le}
use Rattle.line_text.proofs.decimal.fraction_part.Goals as goal

pub overflow_mul-result : goal.overflow_mul-result
overflow_mul-result c =
    let below = (scaled (length c.args.bytes.now) c.in-Some.fraction c.if-bytes-ge7.false c.in-Some.ensures.bound).1 in
    omega arith

pub returns-in-Some-clause-bound : goal.returns-in-Some-clause-bound
returns-in-Some-clause-bound c = (scaled (length c.args.bytes.now) c.in-Some.fraction c.if-bytes-ge7.false c.in-Some.ensures.bound).1

pub returns-in-None-clause-value : goal.returns-in-None-clause-value
returns-in-None-clause-value c =
    let few : 10 ^ length c.args.bytes.now ≤ 2 ^ 64 = omega (arith, ten_to-le (length c.args.bytes.now) 6 (omega arith)) in
    no_fraction c.args.bytes.now _ (no_digits (2 ^ 64) c.args.bytes.now few c.in-None.ensures.value)
