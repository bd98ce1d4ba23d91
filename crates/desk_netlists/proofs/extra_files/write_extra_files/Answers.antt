use Rattle.desk_netlists.proofs.Saving.{all_extras}
use Rattle.desk_netlists.proofs.extra_files.write_extra_files.Goals as goal

pub returns : goal.returns
returns g c = all_extras c.args.job c.args.routed _ _ _ _ c.in_ok-save_picture.ensures c.in_ok-save_page.ensures c.in_ok-check_routed.ensures
