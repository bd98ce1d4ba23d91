use Rattle.longest_path.proofs.Prelude.{ℕ, ◌≡◌, ◌<◌, length, get_or}
use Rattle.longest_path.proofs.longest.has_loop.Given as goal

-- the nets before this one
abbrev pub invariant-loop-net : goal.invariant-loop-net
invariant-loop-net l = record {
  count : length l.starts.items ≡ l.net;
  each : (k : ℕ) → k < l.net → get_or l.starts.items k 0 ≡ k;
}
