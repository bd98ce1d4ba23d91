use Rattle.kept_places.proofs.Prelude.{◌≡◌, ◌∙◌, List, IfOk, Result, Ok, Err, rules, ap, sym, subst, IsPermutation, IsPermutation-map, KeptPlace, KeptPlaces, in_order, entries_of, entry_of}
use Rattle.kept_places.proofs.Entries.{apart_too, as_they_stand}
use Rattle.kept_places.proofs.Sorting.{in_key_order}
use Rattle.kept_places.proofs.table.Table.of.Goals as goal

-- the result for sorted entries
made : {E : Type 0} (all sorted : List KeptPlace) (lent : List KeptPlace) (result : Result KeptPlaces E) → entries_of sorted ≡ in_order (entries_of all) → lent ≡ sorted → IfOk result (λ table. table ≡ entries_of lent) → IfOk result (λ table. table ≡ in_order (entries_of all))
made all sorted lent (Ok table) is value told = told ∙ (ap entries_of value ∙ is)
made all sorted lent (Err error) is value told = tt

pub in_order-requires : goal.in_order-requires
in_order-requires c =
    let sorted = c.sort_unstable.new.self.items in
    let moved = IsPermutation-map entry_of c.args.entries.items sorted c.sort_unstable.ensures.permutation in
    rw c.as_slice.ensures.value (in_key_order sorted c.sort_unstable.ensures.sorted (apart_too (entries_of c.args.entries.items) (entries_of sorted) moved c.requires))

pub returns : goal.returns
returns c =
    let sorted = c.sort_unstable.new.self.items in
    let moved = IsPermutation-map entry_of c.args.entries.items sorted c.sort_unstable.ensures.permutation in
    let up = in_key_order sorted c.sort_unstable.ensures.sorted (apart_too (entries_of c.args.entries.items) (entries_of sorted) moved c.requires) in
    let is = as_they_stand (entries_of c.args.entries.items) (entries_of sorted) moved c.requires up in
    made c.args.entries.items sorted c.as_slice.result.now c.in_order.result is c.as_slice.ensures.value c.in_order.ensures
