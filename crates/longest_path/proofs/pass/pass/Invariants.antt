use Rattle.longest_path.proofs.Prelude.{ℕ, ◌≡◌, ◌≤◌, List, length, true, false, IsFarther, IsPassed, AreFound, steps_to}
use Rattle.longest_path.proofs.pass.pass.Given as goal

-- the tables before this one were gone over
abbrev pub invariant-loop-place : goal.invariant-loop-place
invariant-loop-place l = record {
  long : length l.reach.items ≡ length l.initial.reach.items;
  rises : (net : ℕ) → steps_to l.initial.reach.items net ≤ steps_to l.reach.items net;
  passed : (starts : List ℕ) → AreFound l.tables starts l.initial.reach.items → IsPassed l.tables starts l.place l.initial.reach.items l.reach.items;
  same : l.is_raised ≡ false → l.reach.items ≡ l.initial.reach.items;
  farther : l.is_raised ≡ true → IsFarther l.initial.reach.items l.reach.items;
}
