use Rattle.script_threads.proofs.Prelude.{◌∙◌, ap, length, map, sym, subst, IfOk, ServiceState, said_by, section_of, AreFree, Ran, asked_of}
use Rattle.script_threads.proofs.RanLemmas.{sessions_ran}
use Rattle.script_threads.proofs.SeatLemmas.{none_given}
use Rattle.script_threads.proofs.ServeLemmas.{on_value}
use Rattle.script_threads.proofs.running.run_sessions.Goals as goal

-- a core that was just made with the service has given no lease
pub seat_all-requires-clause-free : goal.seat_all-requires-clause-free
seat_all-requires-clause-free g c = subst AreFree (sym (c.shares.ensures.marks ∙ c.in-Ok.ensures.ok.marks)) (none_given (length c.args.service.histories))

pub returns-clause-ran : goal.returns-clause-ran
returns-clause-ran g c =
    let names = c.args.operator.now in
    let sessions = map said_by c.args.sessions.items in
    let service = c.shares.ensures.service ∙ (c.in-Ok.ensures.ok.same ∙ sym c.requires.begun) in
    let asked = c.in-Some.ensures ∙ (c.in_ok-seated.ensures.seats ∙ ap (λ (s : ServiceState). map (asked_of names s.histories) sessions) service) in
    let P : ServiceState → Type 0 = λ s. IfOk c.finish.result (λ r. Ran names s sessions (map section_of r.1.items) r.0) in
    subst P c.requires.begun (on_value c.finish.result (λ r is. sessions_ran names g.C.Begun.begun c.in-Some.parts.items sessions (map section_of r.1.items) r.0 asked is) c.finish.ensures.ok)
