use Rattle.desk_replies.proofs.Prelude.{inr, subst, IsTextEnd}
use Rattle.desk_replies.proofs.picture.run.Goals as goal

pub returns-in-Ok : goal.returns-in-Ok
returns-in-Ok g c =
    inr (inr (record {
      printed = c.in-Ok.text.items;
      are_printed = c.in-Ok.ensures.ok;
      end = subst (λ text. IsTextEnd c.args.size text c.draw_text.result) c.as_slice.ensures.value c.draw_text.ensures;
    }))
