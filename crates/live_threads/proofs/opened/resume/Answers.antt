use Rattle.live_threads.proofs.Prelude.{Option, subst, sym, option_map, state_in, machine_of, without_workers, Resumes}
use Rattle.live_threads.proofs.EndLemmas.{resumes_none}
use Rattle.live_threads.proofs.opened.resume.Goals as goal

pub returns-in-None-clause-resumes : goal.returns-in-None-clause-resumes
returns-in-None-clause-resumes g c =
    let P : Option _ → Type 0 = λ p. Resumes c.args.told (option_map g.P.Source.remaining p) (without_workers (state_in c.args.live)) (machine_of c.new.result) (g.O.Outlet.view c.args.outlet.now) (g.O.Outlet.view c.args.outlet.now) in
    subst P (sym c.in-None.is) (resumes_none _ _ _ _ c.new.ensures.begins)
