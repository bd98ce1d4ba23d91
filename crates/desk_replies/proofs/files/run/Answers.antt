use Rattle.desk_replies.proofs.Prelude.{refl, subst, IfOk-weaker, AreLines}
use Rattle.desk_replies.proofs.files.run.Goals as goal

pub returns : goal.returns
returns g c =
    let lines = subst (λ text. AreLines c.args.wishes.has_architecture text c.lines_of.result) c.as_slice.ensures.value c.lines_of.ensures in
    IfOk-weaker c.run_on_lines.result _ _ (λ _ saved. record {
      script = c.in_ok-script.script.items;
      read = c.in_ok-script.ensures.read;
      job = record { wishes = c.args.wishes; lines = c.lines_of.result };
      asked = refl;
      lines = lines;
      saved = saved;
    }) c.run_on_lines.ensures
