use Rattle.std.proofs.Common.{◌≡◌, ◌≤◌, false, length}
use Rattle.std.specs.Io.KnownBytes.{Keeps}
use Rattle.ended_input.specs.Left.{input_left}
use Rattle.ended_input.proofs.until_end.UntilEnd.read_on.Given as goal

-- nothing was given so far
abbrev pub invariant-loop : goal.invariant-loop
invariant-loop g l = record {
  room : 7 ≤ length l.buffer;
  over : l.self.is_over ≡ false;
  keeps : Keeps (input_left g.S.Source.remaining l.fn.self) (input_left g.S.Source.remaining l.self);
  failed : l.self.failed ≡ l.fn.self.failed;
  reads : l.self.reads ≡ l.fn.self.reads;
}
