use Rattle.longest_path.proofs.Prelude.{ℕ, ◌≡◌, ◌<◌, length, eqb, drop, All, IsDistinct, slice_index_or, IsMarked, IsThrough}
use Rattle.longest_path.proofs.loops.loop_before.Given as goal

-- from this net ways lead to all nets that were passed, which differ
abbrev pub invariant-loop-step : goal.invariant-loop-step
invariant-loop-step l = record {
  nets_long : length l.nets.items ≡ l._step;
  numbers_long : length l.numbers.items ≡ l._step;
  marked : IsMarked l.marks l.net;
  differ : IsDistinct eqb l.nets.items;
  marked_all : All (IsMarked l.marks) l.nets.items;
  ways : (k : ℕ) → k < l._step → IsThrough l.tables l.net (drop k l.numbers.items) (slice_index_or l.nets.items k 0);
}
