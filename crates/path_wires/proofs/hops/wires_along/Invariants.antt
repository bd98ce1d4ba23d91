use Rattle.path_wires.proofs.Prelude.{ℕ, ◌≡◌, ◌^◌, ◌-◌, List, min, take, sum, AreCounts}
use Rattle.path_wires.proofs.hops.wires_along.Given as goal

-- the hops before this one
abbrev pub invariant-loop-hop : goal.invariant-loop-hop
invariant-loop-hop l = (counts : List ℕ) × AreCounts (take l.hop-index l.hops) counts × (l.wires ≡ min (sum counts) (2 ^ 64 - 1))
