use Rattle.line_text.proofs.Prelude.{◌≡◌, sym, ap, ◌∙◌, trim_end, line_if, open_line, reading_of}
use Rattle.line_text.proofs.ReaderLemmas.{after-continued, from_three, read_on}
use Rattle.line_text.proofs.reader.Reader.read_line.Goals as goal

pub returns-in-Some-clause-read : goal.returns-in-Some-clause-read
returns-in-Some-clause-read c =
    let old = reading_of c.args.self.now in
    let new = reading_of c.extend.new.self in
    let bytes : c.trim_end-bytes.result.now ≡ trim_end _ = c.trim_end-bytes.ensures ∙ ap trim_end (sym c.requires.no_comment) in
    read_on c.extend.result old new c.args.number c.args.line.now
    (from_three c.extend.result _ _ _ _ c.extend.ensures.done c.extend.ensures.line c.extend.ensures.opened
    (λ done line opened. after-continued old new c.args.number c.args.line.now c.trim_end-bytes.result.now c.in-Some.before.now (open_line c.begin_line.new.self) (open_line c.extend.new.self) c.requires.ascii c.begin_line.ensures.line bytes c.in-Some.ensures.0 c.in-Some.ensures.1 line (done ∙ c.begin_line.ensures.done) (ap (λ b. line_if b (open_line c.extend.new.self)) (opened ∙ c.begin_line.ensures.opened))))
    c.extend.ensures.err
