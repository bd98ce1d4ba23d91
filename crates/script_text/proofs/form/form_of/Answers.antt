use Rattle.script_text.proofs.Prelude.{◌≡◌, drop, ap, ◌∙◌, rules, drop-drop, before_first, after_first, is_blank, form_in, without_blanks}
use Rattle.script_text.proofs.form.form_of.Goals as goal

pub returns : goal.returns
unfolding form_in
returns c =
    let word : c.split_word.result.0.now ≡ before_first is_blank (without_blanks c.args.line.now) = search rules in
    let rest : c.after_blank.result.now ≡ after_first is_blank (without_blanks c.args.line.now) = c.after_blank.ensures ∙ ap (drop 1) c.split_word.ensures.rest ∙ drop-drop 1 _ c.skip_blanks.result.now ∙ ap (after_first is_blank) c.skip_blanks.ensures in
    rw (← word, ← rest) c.form_by.ensures
