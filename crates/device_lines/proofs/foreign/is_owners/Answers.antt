use Rattle.device_lines.proofs.Prelude.{◌∙◌, Some, None}
use Rattle.device_lines.proofs.OwnerLemmas.{owner_found}
use Rattle.device_lines.proofs.foreign.is_owners.Goals as goal

pub returns-in-Some : goal.returns-in-Some
returns-in-Some c = c.has_node.ensures ∙ owner_found c.args.device.now.tenancies.items c.args.owned (Some c.in-Some.tenancy.now) c.in-Some.ensures.exact

pub returns-in-None : goal.returns-in-None
returns-in-None c = owner_found c.args.device.now.tenancies.items c.args.owned None c.in-None.ensures.exact
