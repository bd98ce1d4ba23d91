use Rattle.sessions.proofs.Prelude.{◌≡◌, ◌++◌, length, physical_lines, items_of, items_to_come}
use Rattle.sessions.proofs.reading.read_items.Given as goal

-- the items so far, with those of the lines that are left, are those of the input
abbrev pub invariant-loop-rest : goal.invariant-loop-rest
invariant-loop-rest l = l.items.items ++ items_to_come l.reader (physical_lines l.rest) ≡ items_of l.input

abbrev pub decreases-loop-rest : goal.decreases-loop-rest
decreases-loop-rest l = length l.rest
