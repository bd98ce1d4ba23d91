use Rattle.desk_layouts.proofs.Prelude.{◌≡◌, ◌++◌, length, unpinned_text}
use Rattle.desk_layouts.proofs.without_routes.without_nets.Given as goal

-- the lines so far, with those of the rest, are those of the whole text
abbrev pub invariant-loop-rest : goal.invariant-loop-rest
invariant-loop-rest l = unpinned_text l.net ≡ l.text.items ++ unpinned_text l.rest

abbrev pub decreases-loop-rest : goal.decreases-loop-rest
decreases-loop-rest l = length l.rest
