use Rattle.live_threads.proofs.Prelude.{length, ahead_of, line_of, IsFed, TakesSome}
use Rattle.live_threads.proofs.reader.take_lines.Given as goal

-- the lines so far are in the text
abbrev pub invariant-loop-batch : goal.invariant-loop-batch
invariant-loop-batch l = record {
  is_fed : IsFed (ahead_of l.feed) (line_of l.feed);
  some : TakesSome l.batch.items (ahead_of l.fn.feed) (line_of l.fn.feed) (ahead_of l.feed) (line_of l.feed);
}

abbrev pub decreases-loop-batch : goal.decreases-loop-batch
decreases-loop-batch l = length (ahead_of l.feed)
