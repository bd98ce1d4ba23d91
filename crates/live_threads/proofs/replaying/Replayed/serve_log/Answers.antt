use Rattle.live_threads.proofs.Prelude.{◌≡◌, List, ℕ, subst, sym, line_of, kept_of, state_in, without_workers, ReplaysSome, ServesLine, StopsLine}
use Rattle.live_threads.proofs.FedLemmas.{read_ok}
use Rattle.live_threads.proofs.ReplayLemmas.{err_so, if_ok_so, replayed, some_cut, some_fails, some_line, some_none, some_read, some_stops}
use Rattle.live_threads.proofs.replaying.Replayed.serve_log.Goals as goal

pub loop-init : goal.loop-init
loop-init g c = record { ready = c.requires.ready; some = some_none _ _ _ _ _ _ _ _ c.requires.ahead c.requires.line c.requires.first c.requires.none }

pub serve-requires-clause-cut : goal.serve-requires-clause-cut
serve-requires-clause-cut g c =
    let P : List ℕ → Type 0 = λ l. kept_of l ≡ l in
    subst P (sym c.line.ensures) (some_cut _ _ _ _ _ _ _ _ _ _ _ _ _ c.loop.invariant.some c.if-take_piece.ensures)

pub loop-preserved-then-take_piece : goal.loop-preserved-then-take_piece
loop-preserved-then-take_piece g c =
    let L : List ℕ → Type 0 = λ l. ServesLine c.args.told (without_workers (state_in c.loop.self.lines)) c.loop.self.next c.loop.self.taken l (g.O.Outlet.view c.loop.outlet) (without_workers (state_in c.serve.new.self.lines)) c.serve.new.self.next c.serve.new.self.taken (g.O.Outlet.view c.serve.new.outlet) in
    let S : List ℕ → Type 0 = λ a. ReplaysSome c.args.told (without_workers (state_in c.args.self.now.lines)) (g.D.Dialogue.view c.args.source.now).remaining (g.D.Dialogue.view c.loop.source).remaining a (line_of c.begin_line.new.self) (g.O.Outlet.view c.args.outlet.now) (without_workers (state_in c.serve.new.self.lines)) c.serve.new.self.next c.serve.new.self.taken (g.O.Outlet.view c.serve.new.outlet) in
    record {
      ready = c.in_ok-serve.ensures.ready;
      some = subst S (sym c.begin_line.ensures.ahead) (some_line _ _ _ _ _ _ _ _ _ _ _ _ _ _ _ _ _ _ c.loop.invariant.some c.if-take_piece.ensures c.begin_line.ensures.line (subst L c.line.ensures c.in_ok-serve.ensures.serves));
    }

pub returns-in_err-serve-clause-stops : goal.returns-in_err-serve-clause-stops
returns-in_err-serve-clause-stops g c =
    let L : List ℕ → Type 0 = λ l. StopsLine c.args.told (without_workers (state_in c.loop.self.lines)) c.loop.self.next c.loop.self.taken l (g.O.Outlet.view c.loop.outlet) (g.O.Outlet.view c.serve.new.outlet) in
    err_so c.from_residual.result (some_fails _ _ _ _ _ _ _ _ _ _ _ _ _ _ c.loop.invariant.some c.if-take_piece.ensures (subst L c.line.ensures c.in_err-serve.ensures.stops))

pub returns-then-is_err-clause-stops : goal.returns-then-is_err-clause-stops
returns-then-is_err-clause-stops g c = some_stops _ _ _ _ _ _ _ _ _ _ _ c.loop.invariant.some

pub returns-then-is_empty-clause-leads : goal.returns-then-is_empty-clause-leads
returns-then-is_empty-clause-leads g c =
    let reads = read_ok _ _ _ _ c.if-is_err.ensures.value c.refill.ensures.reads in
    if_ok_so c.finish.result _ _
    (λ more puts. replayed _ _ _ _ _ _ _ _ _ _ _ _ more.items _ c.if-is_empty.ensures (reads.end c.if-is_empty.ensures) (some_read _ _ _ _ _ _ _ _ _ _ _ _ _ _ _ _ c.loop.invariant.some c.if-take_piece.ensures reads.consumes c.refill.ensures.line) puts)
    c.finish.ensures.puts

pub returns-then-is_empty-clause-stops : goal.returns-then-is_empty-clause-stops
returns-then-is_empty-clause-stops g c = err_so c.finish.result (some_stops _ _ _ _ _ _ _ _ _ _ _ c.loop.invariant.some)

pub loop-preserved : goal.loop-preserved
loop-preserved g c =
    let reads = read_ok _ _ _ _ c.if-is_err.ensures.value c.refill.ensures.reads in
    record { ready = c.loop.invariant.ready; some = some_read _ _ _ _ _ _ _ _ _ _ _ _ _ _ _ _ c.loop.invariant.some c.if-take_piece.ensures reads.consumes c.refill.ensures.line }
