use Rattle.layout_files.proofs.Prelude.{◌∙◌, net_name, or_open}
use Rattle.layout_files.proofs.ReadingNets.{name_plain, no_net, some_net}
use Rattle.layout_files.proofs.block_lines.net_on.Goals as goal

pub returns-then-is_word-clause-read : goal.returns-then-is_word-clause-read
returns-then-is_word-clause-read c = λ circuit pin after same names within stops e.
    let word = c.word-word.ensures.read (or_open (net_name circuit) pin) after (name_plain circuit pin names) stops e in
    (no_net circuit pin c.word-word.result.now c.is_word.result names within word.0 c.is_word.ensures c.if-is_word.true, word.1)

pub returns-clause-read : goal.returns-clause-read
returns-clause-read c = λ circuit pin after same names within stops e.
    let word = c.word-word.ensures.read (or_open (net_name circuit) pin) after (name_plain circuit pin names) stops e in
    let found = some_net circuit pin c.args.names.now c.word-word.result.now c.is_word.result c.word-word.new.self c.net_named.new.cursor c.net_named.result same names within word.0 c.is_word.ensures c.if-is_word.false c.net_named.ensures.read in
    (found.0, found.1 ∙ word.1)
