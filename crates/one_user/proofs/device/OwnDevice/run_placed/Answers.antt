use Rattle.one_user.proofs.Prelude.{subst, IterEnd, nets_on_device, IsLastIteration}
use Rattle.one_user.proofs.device.OwnDevice.run_placed.Goals as goal

pub run_by-run-requires : goal.run_by-run-requires
run_by-run-requires c =
    subst (λ (e : IterEnd). IsLastIteration c.args.self.now (nets_on_device c.args.self.now c.args.placing.now) (record { end = e; number = c.in_ok-end.field-0.number })) c.in-Done.is c.in_ok-end.ensures

pub returns-in_ok-run-in-Done : goal.returns-in_ok-run-in-Done
returns-in_ok-run-in-Done c = (
  c.in-Done.routes,
  c.in_ok-end.field-0.number,
  subst (λ (e : IterEnd). IsLastIteration c.args.self.now (nets_on_device c.args.self.now c.args.placing.now) (record { end = e; number = c.in_ok-end.field-0.number })) c.in-Done.is c.in_ok-end.ensures,
  c.in_ok-run-in-Done.ensures,
)
