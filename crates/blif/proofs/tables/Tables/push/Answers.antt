use Rattle.blif.proofs.Prelude.{arith, rules, common_steps}
use Rattle.blif.proofs.Growing.{tables_push}
use Rattle.blif.proofs.tables.Tables.push.Goals as goal

pub returns : goal.returns
returns c =
    let inputs = c.self.inside.inputs in
    rw (c.in_ok-extend_from_slice.ensures.items, c.in_ok-push.ensures.items, ← c.self.view_is)
    (tables_push inputs.items c.args.table.inputs.now c.self.inside.tables.items c.args.table.line _ _ c.args.table.output c.self.invariant (search rules) (grind (arith, common_steps)))
