use Rattle.desk_circuits.proofs.Prelude.{take, flat_map, TakesAll, number_field}
use Rattle.desk_circuits.proofs.csv.write_numbers.Given as goal

-- the numbers before this one are written
abbrev pub invariant-loop-number : goal.invariant-loop-number
invariant-loop-number g l = TakesAll g.W.Sink.contents g.W.Sink.has_failed l.initial.writer l.writer (flat_map number_field (take l.number-index l.numbers))
