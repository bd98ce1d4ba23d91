use Rattle.blif.proofs.Prelude.{Ok}
use Rattle.blif.proofs.Answering.{circuit_of-long, circuit_of-short, gives_error_of_lines}
use Rattle.blif.proofs.reader.read_blif.Goals as goal

pub returns-then-text-gt-MAX_TEXT-clause-gives : goal.returns-then-text-gt-MAX_TEXT-clause-gives
returns-then-text-gt-MAX_TEXT-clause-gives c = circuit_of-long c.args.text.now c.args.lut_size c.if-text-gt-MAX_TEXT.true

pub returns-in-Err-clause-gives : goal.returns-in-Err-clause-gives
returns-in-Err-clause-gives c =
    gives_error_of_lines c.args.text.now c.args.lut_size c.in-Err.error c.told_as.result c.if-text-gt-MAX_TEXT.false c.in-Err.ensures.gives c.told_as.ensures

pub returns-clause-gives : goal.returns-clause-gives
returns-clause-gives c =
    rw (circuit_of-short c.args.text.now c.args.lut_size (Ok c.in-Ok.lines) c.if-text-gt-MAX_TEXT.false c.in-Ok.ensures.gives) c.read_lines.ensures.gives
