use Rattle.device_book.proofs.Prelude.{◌≡◌, ◌+◌, ◌≤◌, ◌∙◌, sym, ap, subst, get_or, arith, get_or_read, ListsBefore, Owners}
use Rattle.device_book.proofs.Listing.{lists_all, lists_free_column}
use Rattle.device_book.proofs.book.Book.owned_resources.Goals as goal
use Rattle.device_book.proofs.book.Book.owned_resources.Goals.{then-index-gt0+in_ok-list_column, else-index-gt0}

pub loop-column-preserved : goal.loop-column-preserved
loop-column-preserved c = elim c.if-index-gt0.branch [
  | then-index-gt0+in_ok-list_column w ↦ rw w.list-is w.in_ok-list_column.ensures
  | else-index-gt0 w ↦ rw w.list-is (let within : c.loop-column.column ≤ c.self.inside.extent.columns =
      omega (arith, c.loop-column-test.true, c.len-column-end.ensures, c.self.inside.used.ok.0, c.self.invariant.counted.long) in
      let read : c.index.result.now ≡ get_or c.self.inside.used.items c.loop-column.column 0 =
      get_or_read c.self.inside.used.items c.loop-column.column c.index.result.now (omega (arith, within, c.self.invariant.counted.long)) c.index.ensures 0 in
      let none : get_or c.self.inside.used.items c.loop-column.column 0 ≡ 0 = omega (arith, read, w.if-index-gt0.false) in
      subst (λ (book : Owners). ListsBefore book (c.loop-column.column + 1) c.loop-column.list.items) c.self.view_is
      (lists_free_column (record { extent = c.self.inside.extent; owners = c.self.inside.owners.items }) c.loop-column.column c.loop-column.list.items c.self.invariant.book.long within
      (sym (c.self.invariant.counted.each c.loop-column.column within) ∙ none)
      (subst (λ (book : Owners). ListsBefore book c.loop-column.column c.loop-column.list.items) (sym c.self.view_is) c.loop-column.invariant)))
]

pub returns : goal.returns
returns c =
    let last : c.loop-column.column ≡ c.self.inside.extent.columns + 1 =
    omega (arith, c.loop-column-test.false, c.loop-column.auto.column-end, c.len-column-end.ensures, c.self.inside.used.ok.0, c.self.invariant.counted.long) in
    lists_all c.args.self.now c.loop-column.list.items
    (subst (λ column. ListsBefore c.args.self.now column c.loop-column.list.items) (last ∙ ap (λ (book : Owners). book.extent.columns + 1) c.self.view_is) c.loop-column.invariant)
