use Rattle.device_lines.proofs.Prelude.{◌∙◌, ap, sym, Some, listed_of, owned_node, is_owners, seen_of}
use Rattle.std.specs.Prelude.{map, not}
use Rattle.device_lines.proofs.ListLemmas.{position_mapped}
use Rattle.device_lines.proofs.OwnerLemmas.{owners_are}
use Rattle.device_lines.proofs.StepLemmas.{fault_foreign, fault_missing, fault_none}
use Rattle.device_lines.proofs.reader.Reader.last_fault.Goals as goal

pub returns-in-Some-clause-exact : goal.returns-in-Some-clause-exact
returns-in-Some-clause-exact c = fault_missing (seen_of c.args.self.now) c.args.lines _ c.in-Some.ensures

pub returns-in_err-number-clause-exact : goal.returns-in_err-number-clause-exact
returns-in_err-number-clause-exact c =
    let reader = c.args.self.now in
    c.from_residual.ensures
    ∙ fault_none (seen_of reader) c.args.lines c.in_default.ensures (c.in_err-number.ensures ∙ sym (position_mapped (λ one. not (is_owners (map listed_of reader.device.tenancies.items) one)) owned_node reader.device.owned.items))

pub returns-in_err-number-clause-none : goal.returns-in_err-number-clause-none
returns-in_err-number-clause-none c =
    let reader = c.args.self.now in
    rw c.from_residual.ensures (owners_are reader.device.tenancies.items reader.device.owned.items c.in_err-number.ensures)

pub returns-clause-exact : goal.returns-clause-exact
returns-clause-exact c =
    let reader = c.args.self.now in
    ap Some c.owner_fault.ensures
    ∙ fault_foreign (seen_of reader) c.args.lines c.in_ok-number.number c.in_default.ensures (c.in_ok-number.ensures ∙ sym (position_mapped (λ one. not (is_owners (map listed_of reader.device.tenancies.items) one)) owned_node reader.device.owned.items))
