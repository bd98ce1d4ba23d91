use Rattle.desk_replies.proofs.Prelude.{IfOk-weaker}
use Rattle.desk_replies.proofs.report.run_on_lines.Goals as goal

pub returns : goal.returns
returns g c =
    IfOk-weaker c.print.result _ _ (λ _ shown. record {
      printed = c.as_slice-text.result.now;
      are_printed = rw c.as_slice-text.ensures.value c.in_ok-printed.ensures.read;
      report = c.in_ok-report.report;
      of = record { device = c.in_ok-device.device; read = c.in_ok-device.ensures.read; of = c.in_ok-report.ensures };
      shown = shown;
    }) c.print.ensures
