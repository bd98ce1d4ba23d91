use Rattle.live_lines.proofs.Prelude.{length, IsWithin, stage_of, state_of}
use Rattle.live_lines.proofs.EndSteps.{Ending}
use Rattle.live_lines.proofs.live.Live.end.Given as goal

-- the names that were removed so far
abbrev pub invariant-loop-name : goal.invariant-loop-name
invariant-loop-name g l = record {
  within : IsWithin l.self.said;
  ending : Ending (state_of l.fn.self) (g.W.Sink.contents l.fn.writer) (stage_of l.self) l.self.said (g.W.Sink.contents l.writer);
}

abbrev pub decreases-loop-name : goal.decreases-loop-name
decreases-loop-name g l = length l.self.said.readers.items
