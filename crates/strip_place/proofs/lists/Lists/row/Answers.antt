use Rattle.strip_place.proofs.Listed.{bound_next, row_read}
use Rattle.strip_place.proofs.lists.Lists.row.Goals as goal

pub row_at-requires-clause-next : goal.row_at-requires-clause-next
row_at-requires-clause-next c =
    let l = c.self.inside in
    rw c.as_slice-2.ensures.value (bound_next l.numbers.items l.bounds.items c.args.self.now c.args.number c.self.view_is c.requires)

pub row_at-requires-clause-rises : goal.row_at-requires-clause-rises
row_at-requires-clause-rises c =
    let l = c.self.inside in
    rw c.as_slice-2.ensures.value (c.self.invariant c.args.number (bound_next l.numbers.items l.bounds.items c.args.self.now c.args.number c.self.view_is c.requires)).0

pub row_at-requires-clause-within : goal.row_at-requires-clause-within
row_at-requires-clause-within c =
    let l = c.self.inside in
    rw (c.as_slice-2.ensures.value, c.as_slice.ensures.value) (c.self.invariant c.args.number (bound_next l.numbers.items l.bounds.items c.args.self.now c.args.number c.self.view_is c.requires)).1

pub returns : goal.returns
returns c =
    let l = c.self.inside in
    rw (c.row_at.ensures, c.as_slice-2.ensures.value, c.as_slice.ensures.value) (row_read l.numbers.items l.bounds.items c.args.self.now c.args.number c.self.view_is c.requires)
