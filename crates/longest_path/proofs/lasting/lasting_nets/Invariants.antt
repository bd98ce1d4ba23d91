use Rattle.longest_path.proofs.Prelude.{ℕ, ◌≡◌, ◌≤◌, ◌+◌, length, count_by, IsLedTo, IsMarked, IsOnLoop}
use Rattle.longest_path.proofs.lasting.lasting_nets.Given as goal

-- each pass took a mark away, but none of a loop, and a net to which a marked net leads is marked
abbrev pub invariant-loop-pass : goal.invariant-loop-pass
invariant-loop-pass l = record {
  long : length l.marks.items ≡ l.nets;
  few : count_by (λ mark. mark) l.marks.items + l._pass ≤ l.nets;
  led : (net : ℕ) → IsLedTo l.tables (length l.tables) l.marks.items net → IsMarked l.marks.items net;
  loops : (net : ℕ) → IsOnLoop l.tables net → IsMarked l.marks.items net;
}
