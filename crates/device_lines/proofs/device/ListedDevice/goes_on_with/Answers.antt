use Rattle.device_lines.proofs.Prelude.{◌≡◌, List, Some, ap, sym, ◌∙◌, option_map, OwnedResource, owned_node, follows, last_of}
use Rattle.std.specs.Prelude.{map}
use Rattle.device_lines.proofs.ListLemmas.{last_mapped}
use Rattle.device_lines.proofs.OwnerLemmas.{earlier_is}
use Rattle.device_lines.proofs.device.ListedDevice.goes_on_with.Goals as goal

pub returns-in-Some : goal.returns-in-Some
returns-in-Some c =
    let items = c.args.self.now.owned.items in
    let same : Some (owned_node c.in-Some.last.now) ≡ last_of (map owned_node items) = ap (option_map owned_node) (c.in-Some.ensures.value ∙ ap (λ (xs : List OwnedResource). last_of xs) c.deref.ensures.value) ∙ sym (last_mapped owned_node items) in
    earlier_is c.is_before.result c.in-Some.last.now.node c.args.owned.node c.is_before.ensures ∙ ap (λ o. follows o (owned_node c.args.owned)) same
