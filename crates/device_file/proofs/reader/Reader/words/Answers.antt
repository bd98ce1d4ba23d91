use Rattle.device_file.proofs.Prelude.{◌≡◌, ◌+◌, ◌<◌, ◌≤◌, ℕ, List, [], ◌∷◌, length, drop, map, get_or, ap, sym, ◌∙◌, arith, at_drop_more, drop_all, nat_tests, texts, words_read, read_of}
use Rattle.device_file.proofs.Steps.{comment_begun, no_words, same_error, word_refused, word_taken}
use Rattle.device_file.proofs.reader.Reader.words.Goals as goal

pub returns-then-begins_comment : goal.returns-then-begins_comment
returns-then-begins_comment c =
    let read = read_of c.loop-word.self in
    let within : c.loop-word.word-index < length c.args.words.now = grind (arith, nat_tests, c.loop-word-test.true) in
    c.loop-word.invariant ∙ at_drop_more (λ words. words_read (texts words) read c.args.line) c.args.words.now c.loop-word.word-index _ within
    ∙ comment_begun read c.args.line _ _ (sym c.begins_comment.ensures ∙ c.if-begins_comment.true)

pub returns-in-Err : goal.returns-in-Err
returns-in-Err c =
    let read = read_of c.loop-word.self in
    let within : c.loop-word.word-index < length c.args.words.now = grind (arith, nat_tests, c.loop-word-test.true) in
    same_error _ _ c.in-Err.error (c.loop-word.invariant ∙ at_drop_more (λ words. words_read (texts words) read c.args.line) c.args.words.now c.loop-word.word-index _ within)
    (word_refused read c.args.line _ _ c.in-Err.error (sym c.begins_comment.ensures ∙ c.if-begins_comment.false) c.in-Err.ensures)

pub loop-word-preserved : goal.loop-word-preserved
loop-word-preserved c =
    let read = read_of c.loop-word.self in
    let within : c.loop-word.word-index < length c.args.words.now = grind (arith, nat_tests, c.loop-word-test.true) in
    c.loop-word.invariant ∙ at_drop_more (λ words. words_read (texts words) read c.args.line) c.args.words.now c.loop-word.word-index _ within
    ∙ word_taken read (read_of c.word.new.self) c.args.line _ _ (sym c.begins_comment.ensures ∙ c.if-begins_comment.false) c.in_default.ensures

pub returns : goal.returns
returns c =
    let read = read_of c.loop-word.self in
    let past : length c.args.words.now ≤ c.loop-word.word-index = grind (arith, nat_tests, c.loop-word-test.false) in
    c.loop-word.invariant ∙ ap (λ words. words_read (texts words) read c.args.line) (drop_all c.loop-word.word-index c.args.words.now past) ∙ no_words read c.args.line
