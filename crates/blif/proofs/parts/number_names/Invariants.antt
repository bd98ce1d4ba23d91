use Rattle.blif.proofs.Prelude.{◌≡◌, ◌++◌, take, map, number_of}
use Rattle.blif.proofs.parts.number_names.Given as goal

-- the numbers so far are appended
abbrev pub invariant-loop-place : goal.invariant-loop-place
invariant-loop-place l = l.numbers ≡ l.fn.numbers ++ map (number_of l.driven.nets) (take l.place l.names)
