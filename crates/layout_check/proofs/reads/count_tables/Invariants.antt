use Rattle.layout_check.proofs.Prelude.{take, flat_map, CountsOn}
use Rattle.layout_check.proofs.reads.count_tables.Given as goal

abbrev pub invariant-loop-number : goal.invariant-loop-number
invariant-loop-number l = CountsOn l.initial.counts.items (flat_map (λ table. table.inputs) (take l.number l.tables)) l.counts.items
