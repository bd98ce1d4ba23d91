use Rattle.layout_check.proofs.Prelude.{sym, ◌∙◌, Nothing}
use Rattle.layout_check.specs.declared.owners.Owner.TheVariants.{Latch as LatchOwner}
use Rattle.layout_check.proofs.LatchTold.{alone_told, pair_found, pair_told}
use Rattle.layout_check.proofs.holding.check_latch.Goals as goal

pub check_pair-requires-clause-pair : goal.check_pair-requires-clause-pair
check_pair-requires-clause-pair c =
    pair_found c.args.circuit.now c.args.owners.now c.args.counts.now c.requires.nets c.args.element.now c.args.number c.as_slice.result.now _ c.as_slice.ensures c.requires.small c.requires.same c.in-Table.table c.in-Some.fault
    (sym c.owner_of.ensures ∙ c.in-Table.is) c.in-Some.ensures

pub returns-in-None : goal.returns-in-None
returns-in-None c =
    pair_told c.args.circuit.now c.args.owners.now c.args.counts.now c.requires.nets c.args.element.now c.args.number c.as_slice.result.now _ c.as_slice.ensures c.requires.small c.requires.same c.in-Table.table
    (sym c.owner_of.ensures ∙ c.in-Table.is) (rw c.clock.ensures at (sym c.is_same_net.ensures ∙ c.if-not-is_same_net.false)) c.in-None.ensures

pub returns-in-Latch : goal.returns-in-Latch
returns-in-Latch c =
    alone_told c.args.circuit.now c.args.owners.now c.args.counts.now c.requires.nets c.args.element.now c.args.number c.as_slice.result.now _ c.as_slice.ensures c.requires.small c.requires.same (LatchOwner c.in-Latch.field-0) c.in-Some.fault
    (sym c.owner_of.ensures ∙ c.in-Latch.is) (λ k e. absurd cc) c.in-Some.ensures

pub returns-in-Nothing : goal.returns-in-Nothing
returns-in-Nothing c =
    alone_told c.args.circuit.now c.args.owners.now c.args.counts.now c.requires.nets c.args.element.now c.args.number c.as_slice.result.now _ c.as_slice.ensures c.requires.small c.requires.same Nothing c.in-Some.fault
    (sym c.owner_of.ensures ∙ c.in-Nothing.is) (λ k e. absurd cc) c.in-Some.ensures
