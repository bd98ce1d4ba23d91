use Rattle.desk_netlists.proofs.Prelude.{subst, IfOk-weaker, IsReadFrom}
use Rattle.desk_netlists.proofs.Saving.{checked_so}
use Rattle.desk_netlists.proofs.extra_files.check_routed.Goals as goal

pub returns-in-Implements : goal.returns-in-Implements
returns-in-Implements g c =
    let laid = c.in-Implements.laid in
    let read = subst (λ texts. IsReadFrom texts laid) c.new-texts.ensures c.in-Implements.ensures.0 in
    IfOk-weaker c.save_configuration-saved.result _ _ (λ _. checked_so c.args.job c.args.routed laid _ _ (record {
      shape = c.in-Some.shape;
      columns = c.in-Some.ensures.some.0;
      rows = c.in-Some.ensures.some.1;
      read = read;
      implemented = c.in-Implements.ensures.1;
    })) c.save_configuration-saved.ensures
