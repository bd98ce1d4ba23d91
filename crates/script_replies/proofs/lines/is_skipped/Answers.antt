use Rattle.script_replies.proofs.Prelude.{◌≡◌, ◌∙◌, ap, rules, first_word, is_skipped_by}
use Rattle.script_replies.proofs.lines.is_skipped.Goals as goal

pub returns : goal.returns
returns c =
    let word : c.split_word.result.0.now ≡ first_word c.args.line.now = search rules in
    c.is_skipped_by.ensures ∙ ap is_skipped_by word
