use Rattle.layout_files.proofs.Prelude.{◌∙◌, None, Some, cond, ap, sym}
use Rattle.layout_files.proofs.Fronts.{number_front}
use Rattle.layout_files.proofs.Printing.{same_inside}
use Rattle.layout_files.proofs.cursor.Cursor.number.Goals as goal

pub returns-in-Some-clause-read : goal.returns-in-Some-clause-read
returns-in-Some-clause-read c = λ n after small stops e.
    let text = c.self.inside.left.now in
    let works = ap (λ b. cond b None (Some text)) c.if-self.false in
    let read = number_front text c.split_digits.result.0.now c.split_digits.result.1.now c.decimal_u32.result c.split_digits.ensures.front c.split_digits.ensures.back c.decimal_u32.ensures n after small stops (sym works ∙ c.self.view_is ∙ e) in
    (same_inside c.in-Some.number n (sym c.in-Some.is ∙ read.0), ap (λ b. cond b None (Some c.split_digits.result.1.now)) c.if-self.false ∙ ap Some read.1)

pub returns-in-None-clause-read : goal.returns-in-None-clause-read
returns-in-None-clause-read c = λ n after small stops e.
    let text = c.self.inside.left.now in
    let works = ap (λ b. cond b None (Some text)) c.if-self.false in
    let read = number_front text c.split_digits.result.0.now c.split_digits.result.1.now c.decimal_u32.result c.split_digits.ensures.front c.split_digits.ensures.back c.decimal_u32.ensures n after small stops (sym works ∙ c.self.view_is ∙ e) in
    absurd (let is = c.in-None.is in let found = read.0 in cc)
