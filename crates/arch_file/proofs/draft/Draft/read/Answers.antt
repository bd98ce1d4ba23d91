use Rattle.arch_file.proofs.Prelude.{sym}
use Rattle.arch_file.proofs.ReadLemmas.{reads_empty, reads_keyword, reads_unread}
use Rattle.arch_file.proofs.draft.Draft.read.Goals as goal

pub returns-in-None : goal.returns-in-None
returns-in-None c = λ before follows. reads_empty before c.args.line.now c.args.self.now c.in-None.ensures follows

pub returns-in-Some-keyword_of : goal.returns-in-Some-keyword_of
returns-in-Some-keyword_of c = λ before follows.
    rw c.in-Some.ensures
    (reads_keyword before c.in-Some.word.now c.in-Some.rest c.in-Some-keyword_of.keyword c.read_keyword.result c.read_keyword.new.self
    (sym c.in-Some-keyword_of.ensures) (c.read_keyword.ensures before follows))

pub returns-then-is_unread : goal.returns-then-is_unread
returns-then-is_unread c = λ before follows.
    rw c.in-Some.ensures
    (reads_unread before c.in-Some.word.now c.in-Some.rest c.args.self.now (sym c.in-None-keyword_of.ensures) (sym c.if-is_unread.ensures) follows)
