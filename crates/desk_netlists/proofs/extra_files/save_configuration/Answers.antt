use Rattle.desk_netlists.proofs.Prelude.{refl, IfOk-weaker}
use Rattle.desk_netlists.proofs.Saving.{configured_if_asked}
use Rattle.desk_netlists.proofs.extra_files.save_configuration.Goals as goal

pub returns : goal.returns
returns g c =
    IfOk-weaker c.save.result _ _ (λ _. configured_if_asked c.args.job c.args.routed c.args.laid.now c.new-sink.result.bytes.items _ _ _ c.configure-made.result c.if-not-job.false c.new-sink.ensures.bytes
    (IfOk-weaker c.configure-made.result _ _ (λ _ h. (h.0, h.1, h.2.bytes)) c.configure-made.ensures)) (c.save.ensures _ refl)
