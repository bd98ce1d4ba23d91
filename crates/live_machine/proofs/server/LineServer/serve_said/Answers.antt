use Rattle.live_machine.proofs.Prelude.{◌≡◌, Bool, true, sym, subst, ◌∙◌, state_in, ServesSaid, must_wait, state_with, without_workers}
use Rattle.live_machine.proofs.MachineLemmas.{on_ok}
use Rattle.live_machine.proofs.server.LineServer.serve_said.Goals as goal

pub returns-then-must_wait-clause-serves : goal.returns-then-must_wait-clause-serves
returns-then-must_wait-clause-serves c =
    let name = c.args.name.now in
    let line = c.args.line.now in
    let waits : must_wait (without_workers (state_in c.args.self.now.lines)) name line ≡ true = sym c.must_wait.ensures ∙ c.if-must_wait.true in
    on_ok c.serve_status.result
    (λ serves held.
    let P : Bool → Type 0 = λ b. ServesSaid b name line (state_with c.args.self.now held) (state_with c.serve_status.new.self held) in
    subst P (sym waits) (serves held))
    c.serve_status.ensures.serves
