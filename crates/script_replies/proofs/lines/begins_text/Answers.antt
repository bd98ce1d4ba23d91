use Rattle.script_replies.proofs.Prelude.{◌≡◌, ◌∙◌, ap, drop, rules, drop-drop, after_first, is_blank, begins_text_by, first_word, rest_after}
use Rattle.script_replies.proofs.lines.begins_text.Goals as goal

pub returns : goal.returns
returns c =
    let line = c.args.line.now in
    let word : c.split_word.result.0.now ≡ first_word line = search rules in
    let rest : c.after_blank.result.now ≡ rest_after line = c.after_blank.ensures ∙ ap (drop 1) c.split_word.ensures.rest ∙ drop-drop 1 _ c.skip_blanks.result.now ∙ ap (after_first is_blank) c.skip_blanks.ensures in
    c.begins_text_by.ensures ∙ ap (λ first. begins_text_by first c.after_blank.result.now) word ∙ ap (begins_text_by (first_word line)) rest
