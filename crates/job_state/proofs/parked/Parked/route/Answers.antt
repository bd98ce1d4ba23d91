use Rattle.job_state.proofs.Prelude.{arith, refl}
use Rattle.job_state.proofs.Routings.{over_by_thirty}
use Rattle.job_state.proofs.parked.Parked.route.Goals as goal

pub begin-requires-clause-few : goal.begin-requires-clause-few
begin-requires-clause-few c =
    (30, omega arith, over_by_thirty c.args.sources 30 c.requires.kind refl)
