use Rattle.arch_file.proofs.Prelude.{◌≡◌, codes, sym, bytes_eq-Decides}
use Rattle.arch_file.proofs.SideLemmas.{Shows-top, Shows-bottom, Shows-left, Shows-right, Shows-global}
use Rattle.arch_file.proofs.pin_line.SideWords.with.Goals as goal

pub returns-then-is_word : goal.returns-then-is_word
returns-then-is_word c = λ before shows.
    let is : c.args.word.now ≡ codes "top" = (bytes_eq-Decides c.args.word.now (codes "top")).0 (sym c.if-is_word.ensures) in
    rw is (Shows-top c.args.self before shows)

pub returns-then-is_word-2 : goal.returns-then-is_word-2
returns-then-is_word-2 c = λ before shows.
    let is : c.args.word.now ≡ codes "bottom" = (bytes_eq-Decides c.args.word.now (codes "bottom")).0 (sym c.if-is_word-2.ensures) in
    rw is (Shows-bottom c.args.self before shows)

pub returns-then-is_word-3 : goal.returns-then-is_word-3
returns-then-is_word-3 c = λ before shows.
    let is : c.args.word.now ≡ codes "left" = (bytes_eq-Decides c.args.word.now (codes "left")).0 (sym c.if-is_word-3.ensures) in
    rw is (Shows-left c.args.self before shows)

pub returns-then-is_word-4 : goal.returns-then-is_word-4
returns-then-is_word-4 c = λ before shows.
    let is : c.args.word.now ≡ codes "right" = (bytes_eq-Decides c.args.word.now (codes "right")).0 (sym c.if-is_word-4.ensures) in
    rw is (Shows-right c.args.self before shows)

pub returns-then-is_word-5 : goal.returns-then-is_word-5
returns-then-is_word-5 c = λ before shows.
    let is : c.args.word.now ≡ codes "global" = (bytes_eq-Decides c.args.word.now (codes "global")).0 (sym c.if-is_word-5.ensures) in
    rw is (Shows-global c.args.self before shows)
