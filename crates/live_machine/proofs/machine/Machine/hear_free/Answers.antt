use Rattle.live_machine.proofs.Prelude.{◌≡◌, ◌∙◌, Bool, false, sym, subst, state_in, HearsFree, ServesSaid, must_wait, machine_of, without_workers}
use Rattle.live_machine.proofs.MachineLemmas.{on_ok}
use Rattle.live_machine.proofs.machine.Machine.hear_free.Goals as goal

pub returns-clause-hears : goal.returns-clause-hears
returns-clause-hears c =
    let old = c.args.self.now in
    let name = c.args.name.now in
    let line = c.args.line.now in
    let new = record old { server = c.serve_said.new.self } in
    let free : must_wait (without_workers (state_in old.server.lines)) name line ≡ false = sym c.must_wait.ensures ∙ c.if-must_wait.false in
    on_ok c.serve_said.result
    (λ serves.
    let S : Bool → Type 0 = λ b. ServesSaid b name line (machine_of old) (machine_of new) in
    let H : Bool → Type 0 = λ b. HearsFree b name line (machine_of old) (machine_of new) in
    subst H (sym free) (subst S free (serves old.held)))
    c.serve_said.ensures.serves
