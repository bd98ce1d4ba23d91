use Rattle.desk_circuits.proofs.Prelude.{◌≡◌, ◌-◌, ◌^◌, min, take, sum_by, wires_to_table}
use Rattle.desk_circuits.proofs.wires.wires_to_tables.Given as goal

-- the wires to the tables before this stop
abbrev pub invariant-loop-stop : goal.invariant-loop-stop
invariant-loop-stop l = l.wires ≡ min (sum_by wires_to_table (take l.stop-index l.stops)) (2 ^ 64 - 1)
