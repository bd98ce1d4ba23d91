use Rattle.desk_netlists.proofs.Prelude.{codes, refl, IfOk-weaker}
use Rattle.desk_netlists.proofs.Saving.{extra_if_asked}
use Rattle.desk_netlists.proofs.extra_files.save_page.Goals as goal

pub returns : goal.returns
returns g c = IfOk-weaker c.save.result _ _ (λ _. extra_if_asked c.args.job (codes "html") _ c.args.job.wishes.extras.has_page _ _ c.write_netlist_page-made.result c.if-not-job.false) (c.save.ensures _ refl)
