use Rattle.kept_places.proofs.Prelude.{◌-◌, key_of}
use Rattle.kept_places.proofs.Entries.{IsBetween}
use Rattle.kept_places.proofs.table.Table.place_of.Given as goal

abbrev pub invariant-loop-low : goal.invariant-loop-low
invariant-loop-low l = IsBetween l.self (key_of l.key) l.low l.high

abbrev pub decreases-loop-low : goal.decreases-loop-low
decreases-loop-low l = l.high - l.low
