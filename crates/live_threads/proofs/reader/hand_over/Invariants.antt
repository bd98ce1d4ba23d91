use Rattle.live_threads.proofs.Prelude.{◌≡◌, SameProducer, sent}
use Rattle.live_threads.proofs.reader.hand_over.Given as goal

-- nothing was put so far
abbrev pub invariant-loop : goal.invariant-loop
invariant-loop g l = record {
  ring : SameProducer l.fn.lines l.lines;
  same : sent l.lines ≡ sent l.fn.lines;
  batch : l.batch ≡ l.fn.batch;
}
