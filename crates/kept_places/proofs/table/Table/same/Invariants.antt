use Rattle.kept_places.proofs.Prelude.{◌≡◌, take}
use Rattle.kept_places.proofs.table.Table.same.Given as goal

abbrev pub invariant-loop-number : goal.invariant-loop-number
invariant-loop-number l = take l.number l.self ≡ take l.number l.other
