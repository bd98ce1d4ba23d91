use Rattle.desk_replies.proofs.Prelude.{sym, added_then}
use Rattle.desk_replies.proofs.Ended.{all_ok}
use Rattle.desk_replies.proofs.files.save_and_print.Goals as goal

pub returns : goal.returns
returns g c =
    all_ok c.print_told.result _ _ _ _ (λ _ counted written printed. record {
      told = c.deref-2.result.now;
      are_told = record {
        asked = c.in_ok-asked.asked.items;
        are_asked = c.in_ok-asked.ensures;
        replied = rw (c.deref-2.ensures.value, sym c.deref.ensures.value) c.in_ok-told.ensures;
        counted = counted;
      };
      written = added_then _ _ _ _ _ c.in_ok-files.ensures written;
      printed = printed;
    }) c.print_told.ensures.counted c.print_told.ensures.written c.print_told.ensures.printed
