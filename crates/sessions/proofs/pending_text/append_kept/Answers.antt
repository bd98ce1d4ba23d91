use Rattle.sessions.proofs.Prelude.{◌≤◌, ◌-◌, length, arith, rules, common_steps}
use Rattle.sessions.proofs.KeptLemmas.{kept-whole, kept-part}
use Rattle.sessions.proofs.pending_text.append_kept.Goals as goal

pub returns-then-bytes-room-clause-items : goal.returns-then-bytes-room-clause-items
returns-then-bytes-room-clause-items c =
    let small : length c.args.text.now.items ≤ 1048577 = search rules in
    let room : length c.args.bytes.now ≤ 1048577 - length c.args.text.now.items = search rules in
    grind (arith, common_steps, kept-whole c.args.text.now.items c.args.bytes.now small room)

pub returns-else-bytes-room-clause-items : goal.returns-else-bytes-room-clause-items
returns-else-bytes-room-clause-items c =
    let small : length c.args.text.now.items ≤ 1048577 = search rules in
    grind (arith, common_steps, kept-part c.args.text.now.items c.args.bytes.now small)
