use Rattle.one_user.proofs.Prelude.{subst, IterEnd, nets_on_device, IsLastIteration}
use Rattle.one_user.proofs.PinnedRuns.{routed_whole}
use Rattle.one_user.proofs.device.OwnDevice.run_whole.Goals as goal

pub run_by-run-requires : goal.run_by-run-requires
run_by-run-requires c =
    subst (λ (e : IterEnd). IsLastIteration c.args.self.now (nets_on_device c.args.self.now c.args.placing.now) (record { end = e; number = c.in_ok-end.field-0.number })) c.in-Done.is c.in_ok-end.ensures

pub returns-in-Done : goal.returns-in-Done
returns-in-Done c =
    routed_whole c.args.self.now c.args.placing.now c.in-Done.routes c.in_ok-end.field-0.number c.run_by-run.result
    (subst (λ (e : IterEnd). IsLastIteration c.args.self.now (nets_on_device c.args.self.now c.args.placing.now) (record { end = e; number = c.in_ok-end.field-0.number })) c.in-Done.is c.in_ok-end.ensures)
    c.run_by-run.ensures
