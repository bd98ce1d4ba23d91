use Rattle.layout_check.proofs.Prelude.{sym, ◌∙◌}
use Rattle.layout_check.proofs.HoldsJust.{held_as_table, held_behind}
use Rattle.layout_check.proofs.holding.find_held.Goals as goal

pub returns-in-None : goal.returns-in-None
returns-in-None c = held_as_table c.args.circuit.now c.args.owners.now c.args.element.now _ c.in-Table.number c.requires.owned (sym c.owner_of.ensures ∙ c.in-Table.is) c.in-None.ensures

pub returns-in-Ok : goal.returns-in-Ok
returns-in-Ok c = held_behind c.args.circuit.now c.args.owners.now c.requires.owned c.args.element.now c.in-Latch.number c.in-Ok.table c.in-Ok.ensures
