use Rattle.desk_replies.proofs.Prelude.{◌∙◌, Ok, ap, map, sym, IfOk-weaker, named_act}
use Rattle.desk_replies.proofs.files.run_on_lines.Goals as goal

pub returns : goal.returns
returns g c =
    IfOk-weaker c.run_on_replies.result _ _ (λ _ saved. record {
      printed = c.as_slice.result.now;
      are_printed = rw c.as_slice.ensures.value c.in_ok-printed.ensures.read;
      acts = map named_act c.as_slice-acts.result.now;
      are_acts = c.in_ok-script.ensures ∙ ap (λ xs. Ok (map named_act xs)) (sym c.as_slice-acts.ensures.value);
      replies = c.in_ok-replies.replies;
      are_replies = c.in_ok-replies.ensures;
      saved = saved;
    }) c.run_on_replies.ensures
