use Rattle.line_text.proofs.Prelude.{arith, texts}
use Rattle.line_text.proofs.ReaderLemmas.{ended-too_long, started_within}
use Rattle.line_text.proofs.reader.Reader.end_line.Goals as goal

pub returns-then-self-gt-MAX_LINE-clause-ended : goal.returns-then-self-gt-MAX_LINE-clause-ended
returns-then-self-gt-MAX_LINE-clause-ended c =
    let self = c.args.self.now in
    let started = started_within (λ w. w.now) self.words.items self.start _ self.started c.if-self-end.false (omega (arith, self.words.ok.0)) in
    ended-too_long _ (texts self.words.items) self.number self.start self.count started c.if-self-gt-MAX_LINE.true
