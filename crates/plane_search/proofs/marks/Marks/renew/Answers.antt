use Rattle.plane_search.proofs.Prelude.{◌≤◌, arith, All, All-nil, AreCells, Inside}
use Rattle.plane_search.proofs.Marking.{all_unmarked, low_still}
use Rattle.plane_search.proofs.marks.Marks.renew.Goals as goal
use Rattle.plane_search.proofs.marks.Marks.renew.Goals.{then-LAST-SPAN, else-LAST-SPAN, then-len-count+in_ok-resize, else-len-count}

pub returns-clause-unmarked : goal.returns-clause-unmarked
returns-clause-unmarked g c =
    let number = g.C.Cell.number in
    let P : Inside g.row.C.Denot → Type 0 = λ s. All (λ cell. number cell ≤ s.top) s.cells.items in
    let first : P c.if-LAST-SPAN.self-inside = elim c.if-LAST-SPAN.branch [
      | then-LAST-SPAN w ↦ rw (w.self-inside-is, w.clear.ensures.items) (All-nil _)
      | else-LAST-SPAN w ↦ rw w.self-inside-is c.self.invariant.low
    ] in
    let second : P c.if-len-count.self-inside = elim c.if-len-count.branch [
      | then-len-count+in_ok-resize w ↦ rw (w.self-inside-is, w.in_ok-resize.ensures.items) (low_still number _ _ _ _ _ (omega (arith, w.of.ensures)) first)
      | else-len-count w ↦ rw w.self-inside-is first
    ] in
    rw c.SPAN-2.ensures (all_unmarked number g.C.Cell.SPAN c.if-len-count.self-inside.top c.if-len-count.self-inside.cells.items second)

pub invariant_of-self : goal.invariant_of-self
invariant_of-self g c =
    let s = c.if-LAST-SPAN.self-inside in
    let first : AreCells g.C.Cell.SPAN g.C.Cell.LAST g.C.Cell.number s.top s.cells.items = elim c.if-LAST-SPAN.branch [
      | then-LAST-SPAN w ↦ rw (w.self-inside-is, w.clear.ensures.items, w.SPAN-self-inside.ensures) (record { room = omega arith; few = omega (arith, g.met.C.Cell.fits); low = All-nil _ })
      | else-LAST-SPAN w ↦ rw w.self-inside-is c.self.invariant
    ] in
    rw c.in_err-resize.ensures.items first
