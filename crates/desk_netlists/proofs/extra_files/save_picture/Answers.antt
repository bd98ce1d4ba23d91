use Rattle.desk_netlists.proofs.Prelude.{codes, refl, IfOk-weaker}
use Rattle.desk_netlists.proofs.Saving.{extra_if_asked}
use Rattle.desk_netlists.proofs.extra_files.save_picture.Goals as goal

pub returns : goal.returns
returns g c = IfOk-weaker c.save.result _ _ (λ _. extra_if_asked c.args.job (codes "svg") _ c.args.job.wishes.extras.has_picture _ _ c.draw_routed-drawn.result c.if-not-job.false) (c.save.ensures _ refl)
