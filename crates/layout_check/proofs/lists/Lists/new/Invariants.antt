use Rattle.layout_check.proofs.Prelude.{◌≡◌, [], List, ℕ, map, replicate}
use Rattle.layout_check.proofs.lists.Lists.new.Given as goal

abbrev pub invariant-loop-number : goal.invariant-loop-number
invariant-loop-number l = map (λ list. list.items) l.lists.items ≡ replicate {A = List ℕ} l._number []
