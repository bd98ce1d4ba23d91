use Rattle.desk_netlists.proofs.Prelude.{sym, subst, IsBeginning, IsSized, MAX_READ}
use Rattle.desk_netlists.proofs.Runs.{done_if}
use Rattle.desk_netlists.proofs.route.run_with_arch.Goals as goal
use Rattle.desk_netlists.proofs.route.run_with_arch.Goals.{in-Ok-Size, in-Ok-Refused, in-Err}

pub returns : goal.returns
returns g c = elim c.match-size_for.branch [
  | in-Ok-Size w ↦ rw (w.outcome-is, w.outputs-is) (done_if (g.F.FileTexts.text c.args.files.now) _ _ _ w.run_job-outcome.result
      (subst (λ text. IsBeginning (g.F.FileTexts.text c.args.files.now c.args.wishes.netlist.now) MAX_READ text.now) (sym c.request_of-request.ensures.netlist) c.in_ok-netlist.ensures)
      c.request_of-request.ensures.seed c.request_of-request.ensures.effort
      (subst (IsSized c.args.wishes.size c.args.arch.now c.request_of-request.result) w.in-Ok-Size.field-0-is w.in-Ok-Size.ensures) w.stem_of.ensures w.run_job-outcome.ensures)
  | in-Ok-Refused w ↦ rw w.outcome-is tt
  | in-Err w ↦ rw w.outcome-is tt
]
