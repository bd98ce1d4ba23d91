use Rattle.longest_path.proofs.Prelude.{◌≡◌, ◌+◌, length, steps_to, IsThrough}
use Rattle.longest_path.proofs.trace.longest_way.Given as goal

-- the way from this net on was traced
abbrev pub invariant-loop-made : goal.invariant-loop-made
invariant-loop-made l = record {
  left : steps_to l.reach l.net + l.made ≡ l.steps + 1;
  long : length l.numbers.items + 1 ≡ l.made;
  through : IsThrough l.tables l.net l.numbers.items l.to;
}
