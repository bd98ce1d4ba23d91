use Rattle.rows.proofs.Prelude.{arith, rules, common_steps}
use Rattle.rows.proofs.Growing.{parts_push}
use Rattle.rows.proofs.rows.Rows.push.Goals as goal

pub returns-clause-added : goal.returns-clause-added
returns-clause-added c =
    let numbers = c.self.inside.numbers in
    let spans = rw c.unwrap.ensures at c.push.ensures.items in
    rw (c.in_ok-extend_from_slice.ensures.items, spans, c.in_ok-reserve.ensures.items, ← c.self.view_is)
    (parts_push numbers.items c.args.row.now c.self.inside.spans.items _ _ c.self.invariant (search rules) (grind (arith, common_steps)))
