use Rattle.desk_circuits.proofs.Prelude.{◌≡◌, fold, max, take, wires_to_end}
use Rattle.desk_circuits.proofs.wires.wires_to_ends.Given as goal

-- the most wires to the ends before this stop
abbrev pub invariant-loop-stop : goal.invariant-loop-stop
invariant-loop-stop l = l.most ≡ fold (λ most stop. max most (wires_to_end stop)) 0 (take l.stop-index l.stops)
