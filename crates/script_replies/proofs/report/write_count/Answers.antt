use Rattle.script_replies.proofs.report.write_count.Goals as goal

pub returns : goal.returns
returns g c =
    rw (c.text_if.ensures, c.is_some.ensures, c.number.ensures, c.text_if-2.ensures, c.is_some-2.ensures, c.count_words-words.ensures, c.is_refused.ensures)
    at c.write_parts.ensures
