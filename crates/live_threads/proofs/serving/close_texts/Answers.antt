use Rattle.live_threads.proofs.Prelude.{List, ℕ, inr, refl, subst, Fails, Told}
use Rattle.live_threads.proofs.EndLemmas.{cut_closing}
use Rattle.live_threads.proofs.ServedLemmas.{on_err}
use Rattle.live_threads.proofs.serving.close_texts.Goals as goal

pub returns-in_err-tell-clause-stopped : goal.returns-in_err-tell-clause-stopped
returns-in_err-tell-clause-stopped g c =
    let F : List ℕ → Type 0 = λ bytes. Fails (g.O.Outlet.view c.args.outlet.now) (g.O.Outlet.view c.tell.new.self) c.in_err-tell.field-0.0 Told bytes in
    on_err c.from_residual-in_err-tell.result _
    (inr (cut_closing _ _ _ _ c.in_ok-reply.reply.items c.in_err-tell.field-0.0 refl c.in_ok-reply.ensures (subst F c.as_slice.ensures.value c.in_err-tell.ensures)))
