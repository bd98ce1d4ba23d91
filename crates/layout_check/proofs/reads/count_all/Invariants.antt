use Rattle.layout_check.proofs.Prelude.{take, CountsOn}
use Rattle.layout_check.proofs.reads.count_all.Given as goal

abbrev pub invariant-loop-net : goal.invariant-loop-net
invariant-loop-net l = CountsOn l.initial.counts.items (take l.net-index l.nets) l.counts.items
