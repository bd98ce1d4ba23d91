-- Private: entries in a heap.
use Rattle.std.specs.Prelude.{ℕ, List, map}
use Rattle.std.specs.Ordering.{nat_cmp, ordering_then}
use Rattle.std.specs.declared.cmp.Ordering.{Ordering}
use Rattle.plane_search.specs.declared.queue.Open.{Open}
use Rattle.plane_search.specs.declared.heap.Waiting.{Waiting}

-- The greatest entry is taken first: it has the least key.
abbrev pub waiting_cmp : Waiting → Waiting → Ordering
waiting_cmp a b = ordering_then (nat_cmp b.key.0 a.key.0) (ordering_then (nat_cmp a.cost b.cost) (nat_cmp a.place b.place))

abbrev pub open_of : Waiting → Open ℕ
open_of w = record { place = w.place; cost = w.cost; key = w.key.0 }

abbrev pub opens_of : List Waiting → List (Open ℕ)
opens_of waiting = map open_of waiting
