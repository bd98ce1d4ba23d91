use Rattle.blif.proofs.Prelude.{arith, rules, common_steps}
use Rattle.blif.proofs.Growing.{parts_push}
use Rattle.blif.proofs.net_names.NetNames.push.Goals as goal

pub returns : goal.returns
returns c =
    let bytes = c.self.inside.bytes in
    rw (c.in_ok-extend_from_slice.ensures.items, c.in_ok-push.ensures.items, ← c.self.view_is)
    (parts_push bytes.items c.args.name.now c.self.inside.spans.items _ _ c.self.invariant (search rules) (grind (arith, common_steps)))
