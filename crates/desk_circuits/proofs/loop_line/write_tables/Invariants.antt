use Rattle.desk_circuits.proofs.Prelude.{length, min, take, flat_map, range_with_len, TakesAll, loop_table, table_text, MAX_SHOWN}
use Rattle.desk_circuits.proofs.loop_line.write_tables.Given as goal

-- the tables before this one are written
abbrev pub invariant-loop-place : goal.invariant-loop-place
invariant-loop-place g l = TakesAll g.W.Sink.contents g.W.Sink.has_failed l.initial.writer l.writer (flat_map (λ place. table_text l.circuit (loop_table l.numbers place)) (take l.place (range_with_len 0 (min (length l.numbers) MAX_SHOWN))))
