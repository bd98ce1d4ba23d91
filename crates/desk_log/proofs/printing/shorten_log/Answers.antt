use Rattle.desk_log.proofs.Prelude.{◌≡◌, ap, ◌∙◌, begins, state_in, device_of}
use Rattle.desk_log.proofs.Along.{safe_log}
use Rattle.desk_log.proofs.printing.shorten_log.Goals as goal

pub returns : goal.returns
returns g c =
    let begun = begins (device_of c.args.options c.args.arch) in
    let whole : state_in c.in_ok-whole.whole ≡ begun = c.in_ok-whole.ensures.whole ∙ ap begins c.device-device.ensures in
    let short : state_in c.in_ok-whole.short ≡ begun = c.in_ok-whole.ensures.short ∙ ap begins c.device-device.ensures in
    safe_log c.shorten_checked-checked.result c.in_ok-whole.whole c.in_ok-whole.short c.args.log.now begun whole short c.shorten_checked-checked.ensures.checked
