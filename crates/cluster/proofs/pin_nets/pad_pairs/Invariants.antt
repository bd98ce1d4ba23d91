use Rattle.cluster.proofs.Prelude.{ℕ, List, LogicElement, TellReaders}
use Rattle.cluster.proofs.pin_nets.pad_pairs.Given as goal

abbrev pub invariant-loop-pad : goal.invariant-loop-pad
invariant-loop-pad l =
    (elements : List LogicElement) (clusters : List (List ℕ)) → TellReaders l.circuit elements clusters l.pad 0 l.pairs.items
