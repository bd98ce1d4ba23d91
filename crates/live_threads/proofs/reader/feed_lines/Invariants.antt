use Rattle.live_threads.proofs.Prelude.{◌≡◌, [], ahead_of, line_of, Fed, PutsLines}
use Rattle.live_threads.proofs.reader.feed_lines.Given as goal

-- all lines that were read are handed over
abbrev pub invariant-loop : goal.invariant-loop
invariant-loop g l = record {
  ahead : ahead_of l.feed ≡ [];
  fed : PutsLines l.fn.lines l.lines (λ fed. Fed (g.D.Dialogue.view l.fn.source).remaining (g.D.Dialogue.view l.source).remaining (ahead_of l.feed) (line_of l.feed) fed);
}
