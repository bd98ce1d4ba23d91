use Rattle.layout_files.proofs.Prelude.{◌∙◌, ap, arith, with_name, take_all}
use Rattle.layout_files.proofs.Reading.{name_added}
use Rattle.layout_files.proofs.names.add_names.Goals as goal

pub loop-number-preserved : goal.loop-number-preserved
loop-number-preserved c = λ once.
    c.in_ok-add.ensures.names ∙ ap (λ names. with_name names c.name.result.now) (c.loop-number.invariant once) ∙ name_added c.args.nets.now c.loop-number.number c.name.result.now once c.name.ensures

pub returns : goal.returns
returns c = λ once. c.loop-number.invariant once ∙ take_all c.loop-number.number c.args.nets.now (let f = c.loop-number-test.false in omega (arith, f, c.len-number-end.ensures))
