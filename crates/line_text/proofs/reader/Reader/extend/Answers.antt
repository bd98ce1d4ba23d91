use Rattle.line_text.proofs.Prelude.{ap, ◌∙◌, seen_lines, texts, words_of}
use Rattle.line_text.proofs.ReaderLemmas.{AreWithin-map, seen_lines-append}
use Rattle.line_text.proofs.reader.Reader.extend.Goals as goal

pub returns-clause-done : goal.returns-clause-done
returns-clause-done c =
    let self = c.args.self.now in
    ap (λ words. seen_lines words self.spans.items) c.in_ok-append_words.ensures.ok
    ∙ seen_lines-append (texts self.words.items) (words_of c.args.bytes.now) self.spans.items (AreWithin-map (λ w. w.now) self.words.items self.spans.items self.within)
