use Rattle.device_book.proofs.Prelude.{◌≡◌, ◌+◌, ◌*◌, ◌≤◌, ◌∙◌, sym, ap, subst, Some, None, get_or, arith, get_or_read, ListsPlaces, column_size, Owners}
use Rattle.device_book.proofs.Columns.{column_place}
use Rattle.device_book.proofs.Listing.{lists_free, lists_owned, no_owner}
use Rattle.device_book.proofs.book.Book.list_column.Goals as goal
use Rattle.device_book.proofs.book.Book.list_column.Goals.{in-Some+in_ok-push, in_default}

pub index-requires : goal.index-requires
index-requires c =
    let within : c.args.column ≤ c.self.inside.extent.columns = subst (λ (book : Owners). c.args.column ≤ book.extent.columns) (sym c.self.view_is) c.requires.within in
    let there = column_place c.self.inside.extent c.args.column c.column_size-size.result c.loop-place.place within c.column_size-size.ensures c.loop-place-test.true in
    omega (arith, there, c.self.invariant.book.long, c.self.inside.owners.ok.0)

pub resource_at-resource-requires : goal.resource_at-resource-requires
resource_at-resource-requires c =
    let within : c.args.column ≤ c.self.inside.extent.columns = subst (λ (book : Owners). c.args.column ≤ book.extent.columns) (sym c.self.view_is) c.requires.within in
    record {
      small = c.self.invariant.book.small;
      within = column_place c.self.inside.extent c.args.column c.column_size-size.result c.loop-place.place within c.column_size-size.ensures c.loop-place-test.true;
    }

pub loop-place-preserved : goal.loop-place-preserved
loop-place-preserved c =
    let within : c.args.column ≤ c.self.inside.extent.columns = subst (λ (book : Owners). c.args.column ≤ book.extent.columns) (sym c.self.view_is) c.requires.within in
    let there = column_place c.self.inside.extent c.args.column c.column_size-size.result c.loop-place.place within c.column_size-size.ensures c.loop-place-test.true in
    let read : c.index.result.now ≡ get_or c.self.inside.owners.items c.loop-place.place None = get_or_read c.self.inside.owners.items c.loop-place.place c.index.result.now (omega (arith, there, c.self.invariant.book.long)) c.index.ensures None in
    let so_far : ListsPlaces (record { extent = c.self.inside.extent; owners = c.self.inside.owners.items }) c.loop-place.place c.loop-place.list.items =
    subst (λ (book : Owners). ListsPlaces book c.loop-place.place c.loop-place.list.items) (sym c.self.view_is) c.loop-place.invariant in
    subst (λ (book : Owners). ListsPlaces book (c.loop-place.place + 1) c.match-index.list.items) c.self.view_is (elim c.match-index.branch [
      | in-Some+in_ok-push w ↦ rw w.list-is (rw w.in_ok-push.ensures.items (lists_owned (record { extent = c.self.inside.extent; owners = c.self.inside.owners.items }) c.loop-place.place c.loop-place.list.items w.resource_at-resource.result w.from-id.result
          (sym read ∙ (w.in-Some.is ∙ ap Some (sym w.from-id.ensures))) w.resource_at-resource.ensures.there w.resource_at-resource.ensures.place so_far))
      | in_default w ↦ rw w.list-is (lists_free (record { extent = c.self.inside.extent; owners = c.self.inside.owners.items }) c.loop-place.place c.loop-place.list.items (sym read ∙ no_owner c.index.result.now w.in_default.not-Some) so_far)
    ])

pub returns : goal.returns
returns c =
    let end : c.loop-place.place ≡ (c.args.column + 1) * c.column_size-size.result = (let behind = c.loop-place.auto.place-end (omega arith) in omega (arith, behind, c.loop-place-test.false)) in
    let size : c.column_size-size.result ≡ column_size c.args.self.now.extent = c.column_size-size.ensures ∙ ap (λ (book : Owners). column_size book.extent) c.self.view_is in
    subst (λ place. ListsPlaces c.args.self.now place c.loop-place.list.items) (end ∙ ap (λ size. (c.args.column + 1) * size) size) c.loop-place.invariant
