use Rattle.layout_files.proofs.Prelude.{◌∙◌, ◌++◌, List, ap, codes, sym, append-nil, Feed, feed_or_open, left_after}
use Rattle.layout_files.proofs.ReadingNets.{an_input, feed_plain, no_input}
use Rattle.layout_files.proofs.block_lines.read_input.Goals as goal

pub returns-then-is_word-clause-read : goal.returns-then-is_word-clause-read
returns-then-is_word-clause-read c = λ feed after small stops e.
    let word = c.word-word.ensures.read (feed_or_open feed) after (feed_plain feed small) stops (c.text.ensures.left ∙ ap (λ v. left_after v (codes " ")) e) in
    (sym (ap (λ (more : List Feed). c.args.inputs.now.items ++ more) (no_input feed c.word-word.result.now c.is_word.result small word.0 c.is_word.ensures c.if-is_word.true) ∙ append-nil c.args.inputs.now.items), word.1)

pub returns-clause-read : goal.returns-clause-read
returns-clause-read c = λ feed after small stops e.
    let word = c.word-word.ensures.read (feed_or_open feed) after (feed_plain feed small) stops (c.text.ensures.left ∙ ap (λ v. left_after v (codes " ")) e) in
    let found = an_input feed c.word-word.result.now c.is_word.result c.word-word.new.self c.feed_in-feed.new.cursor c.feed_in-feed.result small word.0 c.is_word.ensures c.if-is_word.false c.feed_in-feed.ensures.read in
    (c.in_ok-push.ensures.items ∙ ap (λ (more : List Feed). c.args.inputs.now.items ++ more) found.0, found.1 ∙ word.1)
