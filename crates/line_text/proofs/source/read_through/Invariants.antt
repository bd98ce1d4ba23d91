use Rattle.line_text.proofs.Prelude.{◌≡◌, false, Consumes}
use Rattle.line_text.proofs.source.read_through.Given as goal

abbrev pub invariant-loop-count : goal.invariant-loop-count
invariant-loop-count g l = record {
  taken : Consumes (g.S.Source.remaining l.initial.source) (g.S.Source.remaining l.source) l.all.items;
  works : g.S.Source.has_failed l.source ≡ false → g.S.Source.has_failed l.initial.source ≡ false;
}

abbrev pub decreases-loop-count : goal.decreases-loop-count
decreases-loop-count g l = g.S.Source.reads_left l.source
