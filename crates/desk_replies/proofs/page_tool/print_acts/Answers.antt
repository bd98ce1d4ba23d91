use Rattle.desk_replies.proofs.Prelude.{IfOk-weaker}
use Rattle.desk_replies.proofs.page_tool.print_acts.Goals as goal

pub returns : goal.returns
returns g c =
    IfOk-weaker c.print_served.result _ _ (λ _ page. record {
      device = c.device_with.result;
      is_device = rw (c.number_in-rows.ensures, c.number_in-tracks.ensures) at c.device_with.ensures;
      page = page;
    }) c.print_served.ensures
