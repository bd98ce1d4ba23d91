use Rattle.desk_netlists.proofs.Saving.{written_if}
use Rattle.desk_netlists.proofs.route.write_run.Goals as goal
use Rattle.desk_netlists.proofs.route.write_run.Goals.{in-Ok, in-Err}

pub returns-after-save_files : goal.returns-after-save_files
returns-after-save_files g c = elim c.match-save_files.branch [
  | in-Ok w ↦ rw (w.written-is, w.outputs-is)
      (written_if c.args.job c.in-Routed.files w.routed_of-routed.result c.args.run.outcome _ _ _ w.write_routed-written.result c.in-Routed.is w.in-Ok.ensures w.routed_of-routed.ensures w.write_routed-written.ensures)
  | in-Err w ↦ rw w.written-is tt
]
