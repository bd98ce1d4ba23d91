use Rattle.longest_path.proofs.Prelude.{arith}
use Rattle.longest_path.proofs.Looping.{no_loop_unmarked}
use Rattle.longest_path.proofs.loops.loop_among.Goals as goal

pub returns : goal.returns
returns c = λ loop. no_loop_unmarked c.args.tables.now c.args.marks.now c.requires (λ net within. c.loop-net.invariant net (omega arith)) loop
