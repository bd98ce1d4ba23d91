use Rattle.layout_files.proofs.Prelude.{◌∙◌, None, Some, cond, ap, sym}
use Rattle.layout_files.proofs.Fronts.{word_front}
use Rattle.layout_files.proofs.cursor.Cursor.word.Goals as goal

pub returns-clause-read : goal.returns-clause-read
returns-clause-read c = λ w after plain stops e.
    let text = c.self.inside.left.now in
    let works = ap (λ b. cond b None (Some text)) c.if-self.false in
    let read = word_front text c.split_word.result.0.now c.split_word.result.1.now c.split_word.ensures.front c.split_word.ensures.back w after plain stops (sym works ∙ c.self.view_is ∙ e) in
    (read.0, ap (λ b. cond b None (Some c.split_word.result.1.now)) c.if-self.false ∙ ap Some read.1)
