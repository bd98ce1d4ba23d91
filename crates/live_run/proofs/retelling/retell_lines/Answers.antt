use Rattle.live_run.proofs.Prelude.{List, ℕ, Ok, Err, subst, sym, line_of, state_in, RetellsLine}
use Rattle.live_run.proofs.ReadLemmas.{read_ok}
use Rattle.live_run.proofs.RetellLemmas.{RetellsSome, some_ends, some_line, some_none, some_read, some_stops, some_whole}
use Rattle.live_run.proofs.retelling.retell_lines.Goals as goal

pub loop-init : goal.loop-init
loop-init g c = record { ready = c.requires.ready; some = some_none _ _ _ _ _ _ _ c.requires.ahead c.requires.line }

pub loop-preserved-then-take_piece : goal.loop-preserved-then-take_piece
loop-preserved-then-take_piece g c =
    let A : List ℕ → Type 0 = λ a. RetellsSome (state_in c.args.lines.now) c.args.number.now (g.S.Dialogue.view c.args.source.now).remaining (g.S.Dialogue.view c.loop.source).remaining a (line_of c.begin_line.new.self) c.args.told (g.D.Dialogue.view c.args.dialogue.now) c.retell_line.new.number (state_in c.retell_line.new.lines) (g.D.Dialogue.view c.retell_line.new.dialogue) in
    let L : List ℕ → Type 0 = λ l. RetellsLine (state_in c.loop.lines) c.loop.number l c.args.told (g.D.Dialogue.view c.loop.dialogue) (Ok tt) (state_in c.retell_line.new.lines) c.retell_line.new.number (g.D.Dialogue.view c.retell_line.new.dialogue) in
    record {
      ready = c.in-Ok.ensures.ready;
      some = subst A (sym c.begin_line.ensures.ahead) (some_line _ _ _ _ _ _ _ _ _ _ _ _ _ _ _ _ _ c.loop.invariant.some c.if-take_piece.ensures c.begin_line.ensures.line (subst L c.line.ensures c.in-Ok.ensures.retells));
    }

pub loop-preserved : goal.loop-preserved
loop-preserved g c =
    let reads = read_ok _ _ _ _ c.if-is_err.ensures.value c.refill.ensures.reads in
    record { ready = c.loop.invariant.ready; some = some_read _ _ _ _ _ _ _ _ _ _ _ _ _ _ _ _ c.loop.invariant.some c.if-take_piece.ensures reads.consumes c.refill.ensures.line }

pub returns-then-is_empty-clause-retells : goal.returns-then-is_empty-clause-retells
returns-then-is_empty-clause-retells g c =
    let reads = read_ok _ _ _ _ c.if-is_err.ensures.value c.refill.ensures.reads in
    some_whole _ _ _ _ _ _ _ _ _ _ _ c.if-is_empty.ensures (reads.end c.if-is_empty.ensures) (some_read _ _ _ _ _ _ _ _ _ _ _ _ _ _ _ _ c.loop.invariant.some c.if-take_piece.ensures reads.consumes c.refill.ensures.line)

pub returns-in-Err-clause-retells : goal.returns-in-Err-clause-retells
returns-in-Err-clause-retells g c =
    let L : List ℕ → Type 0 = λ l. RetellsLine (state_in c.loop.lines) c.loop.number l c.args.told (g.D.Dialogue.view c.loop.dialogue) (Err c.in-Err.outcome) (state_in c.retell_line.new.lines) c.retell_line.new.number (g.D.Dialogue.view c.retell_line.new.dialogue) in
    some_ends _ _ _ _ _ _ _ _ _ _ _ _ _ _ _ _ _ c.loop.invariant.some c.if-take_piece.ensures (subst L c.line.ensures c.in-Err.ensures.retells)

pub returns-then-is_err-clause-retells : goal.returns-then-is_err-clause-retells
returns-then-is_err-clause-retells g c = some_stops _ _ _ _ _ _ _ _ _ _ _ c.loop.invariant.some
