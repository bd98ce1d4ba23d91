use Rattle.desk_replies.proofs.Prelude.{◌∙◌, Ok, ap, map, refl, sym, is_some, IfOk-weaker, accounts_of, named_act}
use Rattle.desk_replies.proofs.report.print.Goals as goal

pub returns : goal.returns
returns g c =
    let acts = map named_act c.as_slice-acts.result.now in
    let replies = c.in_ok-replies.replies in
    rw (ap is_some c.in-Some.is) (IfOk-weaker c.print_acts.result _ _ (λ _ shown. (
      accounts_of acts replies,
      record {
        number = c.in-Some.lines.number;
        script = c.in-Some.lines.text.now;
        acts = acts;
        are_acts = c.in_ok-script.ensures ∙ ap (λ xs. Ok (map named_act xs)) (sym c.as_slice-acts.ensures.value);
        replies = replies;
        are_replies = c.in_ok-replies.ensures;
        are_accounts = refl;
      },
      c.new-device.result,
      shown,
    )) c.print_acts.ensures)
