use Rattle.longest_path.proofs.Prelude.{ℕ, ◌≡◌, ◌<◌, ◌≤◌, get_or, MatchOption, IsIn, steps_to}
use Rattle.longest_path.proofs.reach.farthest_net.Given as goal

-- the farthest of the nets before this one
abbrev pub invariant-loop-net : goal.invariant-loop-net
invariant-loop-net l = record {
  most : (k : ℕ) → k < l.net-index → steps_to l.reach (get_or l.nets k 0) ≤ l.most;
  best : MatchOption l.farthest (l.most ≡ 0) (λ net. (steps_to l.reach net ≡ l.most) × (0 < l.most) × IsIn l.nets net);
}
