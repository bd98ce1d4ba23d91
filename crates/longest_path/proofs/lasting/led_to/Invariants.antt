use Rattle.longest_path.proofs.Prelude.{AreLedTo}
use Rattle.longest_path.proofs.lasting.led_to.Given as goal

-- the tables before this one lead to the marked nets
abbrev pub invariant-loop-place : goal.invariant-loop-place
invariant-loop-place l = AreLedTo l.tables l.place l.marks l.next.items
