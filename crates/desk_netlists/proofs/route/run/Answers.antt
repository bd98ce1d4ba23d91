use Rattle.desk_netlists.proofs.Prelude.{subst, sym, IfOk-weaker, IsBeginning, MAX_READ}
use Rattle.desk_netlists.proofs.Runs.{done_telling}
use Rattle.desk_netlists.proofs.route.run.Goals as goal

pub returns : goal.returns
returns g c =
    let text = g.F.FileTexts.text c.args.files.now in
    let read = subst (IsBeginning (text c.args.wishes.arch.now) MAX_READ) (sym c.as_slice.ensures.value) c.in_ok-arch.ensures.read in
    IfOk-weaker c.run_with_arch-outcome.result _ _ (λ _ done. done_telling text c.args.wishes _ _ _ _ (done read)) c.run_with_arch-outcome.ensures
