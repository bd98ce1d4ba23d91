use Rattle.live_threads.proofs.Prelude.{List, ℕ, ◌∷◌, [], subst, Fails, Happens, Kept, Told}
use Rattle.live_threads.proofs.ServedLemmas.{on_err, served_drain, stopped_log, stopped_output}
use Rattle.live_threads.proofs.serving.deliver.Goals as goal

pub returns-in_err-keep-clause-stopped : goal.returns-in_err-keep-clause-stopped
returns-in_err-keep-clause-stopped g c =
    let F : List ℕ → Type 0 = λ bytes. Fails (g.O.Outlet.view c.args.outlet.now) (g.O.Outlet.view c.keep.new.self) c.in_err-keep.field-0.0 Kept bytes in
    on_err c.from_residual.result _ (stopped_log _ _ _ _ _ _ _ c.drain-log.ensures.drains (subst F c.as_slice.ensures.value c.in_err-keep.ensures))

pub returns-in_err-tell-clause-stopped : goal.returns-in_err-tell-clause-stopped
returns-in_err-tell-clause-stopped g c =
    let K : List ℕ → Type 0 = λ bytes. Happens (g.O.Outlet.view c.args.outlet.now) (g.O.Outlet.view c.keep.new.self) (Kept bytes ∷ []) in
    let F : List ℕ → Type 0 = λ bytes. Fails (g.O.Outlet.view c.keep.new.self) (g.O.Outlet.view c.tell.new.self) c.in_err-tell.field-0.0 Told bytes in
    on_err c.from_residual-in_err-tell.result _
    (stopped_output _ _ _ _ _ _ _ _ c.drain-log.ensures.drains (subst K c.as_slice.ensures.value c.in_ok-keep.ensures) (subst F c.as_slice-2.ensures.value c.in_err-tell.ensures))

pub returns-clause-served : goal.returns-clause-served
returns-clause-served g c =
    let K : List ℕ → Type 0 = λ bytes. Happens (g.O.Outlet.view c.args.outlet.now) (g.O.Outlet.view c.keep.new.self) (Kept bytes ∷ []) in
    let T : List ℕ → Type 0 = λ bytes. Happens (g.O.Outlet.view c.keep.new.self) (g.O.Outlet.view c.tell.new.self) (Told bytes ∷ []) in
    served_drain _ _ _ _ _ _ _ c.drain-log.ensures.drains (subst K c.as_slice.ensures.value c.in_ok-keep.ensures) (subst T c.as_slice-2.ensures.value c.in_ok-tell.ensures)
