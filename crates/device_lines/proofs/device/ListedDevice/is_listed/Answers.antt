use Rattle.device_lines.proofs.Prelude.{◌∙◌, option_map}
use Rattle.device_lines.proofs.ListLemmas.{some_mapped}
use Rattle.device_lines.proofs.OwnerLemmas.{found_some}
use Rattle.device_lines.proofs.device.ListedDevice.is_listed.Goals as goal

pub returns : goal.returns
returns c = c.is_some.ensures ∙ some_mapped (λ t. t.now) c.tenancy.result ∙ found_some c.args.self.now.tenancies.items c.args.id (option_map (λ t. t.now) c.tenancy.result) c.tenancy.ensures.exact
