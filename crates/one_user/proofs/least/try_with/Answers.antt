use Rattle.one_user.proofs.Prelude.{ap, subst, sym, ◌∙◌, Basis, IsRunOn}
use Rattle.one_user.proofs.OtherTracks.{is_try, strip_is}
use Rattle.one_user.proofs.least.try_with.Goals as goal

pub run_placed-run-requires : goal.run_placed-run-requires
run_placed-run-requires c =
    strip_is c.args.plan c.args.request c.args.tracks c.in_ok-arch.arch c.in_ok-arch.ensures.gives c.args.placing.now c.requires.placed ∙ sym (ap (λ (b : Basis). b.strip) c.in_ok-device.ensures)

pub returns-clause-tried : goal.returns-clause-tried
returns-clause-tried c =
    is_try c.args.plan c.args.request c.args.tracks c.in_ok-arch.arch c.in_ok-arch.ensures.gives c.args.placing.now c.requires.placed c.in_ok-run.field-0
    (subst (λ (b : Basis). IsRunOn b c.args.placing.now c.in_ok-run.field-0) c.in_ok-device.ensures c.in_ok-run.ensures)
