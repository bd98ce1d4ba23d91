use Rattle.live_run.proofs.Prelude.{List, ℕ, Ok, Err, subst, sym, line_of, TakesNext}
use Rattle.live_run.proofs.ReadLemmas.{read_ok}
use Rattle.live_run.proofs.SumLemmas.{SumsSome, sums_end, sums_line, sums_none, sums_read, sums_unread, sums_whole}
use Rattle.live_run.proofs.sums.check_lines.Goals as goal

pub loop-init : goal.loop-init
loop-init g c = sums_none _ _ _ _ c.requires.ahead c.requires.line c.none-sum.ensures

pub loop-preserved-then-take_piece : goal.loop-preserved-then-take_piece
loop-preserved-then-take_piece g c =
    let A : List ℕ → Type 0 = λ a. SumsSome (g.S.Dialogue.view c.args.source.now).remaining (g.S.Dialogue.view c.loop.source).remaining a (line_of c.begin_line.new.self) c.in-Ok.next in
    let L : List ℕ → Type 0 = λ l. TakesNext c.loop.sum l (Ok c.in-Ok.next) in
    subst A (sym c.begin_line.ensures.ahead) (sums_line _ _ _ _ _ _ _ _ _ c.loop.invariant c.if-take_piece.ensures c.begin_line.ensures.line (subst L c.line.ensures c.in-Ok.ensures.takes))

pub loop-preserved : goal.loop-preserved
loop-preserved g c =
    let reads = read_ok _ _ _ _ c.if-is_err.ensures.value c.refill.ensures.reads in
    sums_read _ _ _ _ _ _ _ _ _ _ c.loop.invariant c.if-take_piece.ensures reads.consumes c.refill.ensures.line

pub returns-then-is_empty-clause-checks : goal.returns-then-is_empty-clause-checks
returns-then-is_empty-clause-checks g c =
    let reads = read_ok _ _ _ _ c.if-is_err.ensures.value c.refill.ensures.reads in
    sums_whole _ _ _ _ _ c.if-is_empty.ensures (reads.end c.if-is_empty.ensures) (sums_read _ _ _ _ _ _ _ _ _ _ c.loop.invariant c.if-take_piece.ensures reads.consumes c.refill.ensures.line)

pub returns-in-Err-clause-checks : goal.returns-in-Err-clause-checks
returns-in-Err-clause-checks g c =
    let L : List ℕ → Type 0 = λ l. TakesNext c.loop.sum l (Err c.in-Err.outcome) in
    sums_end _ _ _ _ _ _ _ _ c.loop.invariant c.if-take_piece.ensures (subst L c.line.ensures c.in-Err.ensures.takes)

pub returns-then-is_err-clause-checks : goal.returns-then-is_err-clause-checks
returns-then-is_err-clause-checks g c = sums_unread _
