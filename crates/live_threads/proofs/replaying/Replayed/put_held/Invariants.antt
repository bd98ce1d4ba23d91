use Rattle.live_threads.proofs.Prelude.{is_ready, ArePuts}
use Rattle.live_threads.proofs.replaying.Replayed.put_held.Given as goal

-- the lines so far put jobs
abbrev pub invariant-loop-number : goal.invariant-loop-number
invariant-loop-number g l = record {
  ready : is_ready l.self.lines;
  puts : ArePuts l.more.items;
}
