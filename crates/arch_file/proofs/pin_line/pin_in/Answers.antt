use Rattle.arch_file.proofs.Prelude.{pin_line_faults}
use Rattle.arch_file.proofs.pin_line.pin_in.Goals as goal

pub returns-in-Some-split_first-clause-faults : goal.returns-in-Some-split_first-clause-faults
unfolding pin_line_faults
returns-in-Some-split_first-clause-faults c = λ pins is_inputs is_clock.
    rw (c.in-Some.ensures, c.in-Some-split_first.ensures, ← c.if-not-is_word.ensures) (c.pin_of.ensures.faults pins is_inputs is_clock)
