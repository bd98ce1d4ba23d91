use Rattle.device_lines.proofs.Prelude.{ap, sym, ◌∙◌, refl, device_in, seen_of}
use Rattle.device_lines.proofs.reader.read_device.Goals as goal

pub returns-in-Ok-clause-exact : goal.returns-in-Ok-clause-exact
returns-in-Ok-clause-exact c =
    (seen_of c.read-ended.new.self, ap (λ size. device_in size c.args.text.now) (sym c.new.ensures.size) ∙ c.in-Ok.ensures.exact, record { size = refl; listed = refl; owned = refl })
