use Rattle.device_book.proofs.Prelude.{◌≡◌, [], ◌∷◌, true, sym, subst, arith, set, Resource, AreOwned, Owners, in_book}
use Rattle.device_book.proofs.Columns.{count_fits, counted_anew, sees}
use Rattle.device_book.proofs.Places.{write_one}
use Rattle.device_book.proofs.book.Book.write_one.Goals as goal

pub overflow_add-index : goal.overflow_add-index
overflow_add-index c =
    let there : in_book c.self.inside.extent c.at_offset-resource.result ≡ true = subst (λ (book : Owners). in_book book.extent c.at_offset-resource.result ≡ true) (sym c.self.view_is)
    (subst (λ (r : Resource). in_book c.args.self.now.extent r ≡ true) (sym c.at_offset-resource.ensures) c.requires) in
    let seen = sees c.self.inside.extent c.self.inside.owners.items c.self.inside.used.items c.at_offset-resource.result c.args.owner _ _ _ _ c.index-2.result.now c.from-is_owned.result c.from-was_owned.result
    c.self.invariant there c.number_of-place.ensures.value c.index.ensures c.index-2.ensures c.is_some-2.ensures c.from-is_owned.ensures c.is_some.ensures c.from-was_owned.ensures in
    let fits = (count_fits c.self.inside.extent c.self.inside.owners.items c.self.inside.used.items c.at_offset-resource.result c.args.owner _ _ _ c.self.invariant there seen).0 in
    omega (arith, fits)

pub overflow_sub-index : goal.overflow_sub-index
overflow_sub-index c =
    let there : in_book c.self.inside.extent c.at_offset-resource.result ≡ true = subst (λ (book : Owners). in_book book.extent c.at_offset-resource.result ≡ true) (sym c.self.view_is)
    (subst (λ (r : Resource). in_book c.args.self.now.extent r ≡ true) (sym c.at_offset-resource.ensures) c.requires) in
    let seen = sees c.self.inside.extent c.self.inside.owners.items c.self.inside.used.items c.at_offset-resource.result c.args.owner _ _ _ _ c.index-2.result.now c.from-is_owned.result c.from-was_owned.result
    c.self.invariant there c.number_of-place.ensures.value c.index.ensures c.index-2.ensures c.is_some-2.ensures c.from-is_owned.ensures c.is_some.ensures c.from-was_owned.ensures in
    (count_fits c.self.inside.extent c.self.inside.owners.items c.self.inside.used.items c.at_offset-resource.result c.args.owner _ _ _ c.self.invariant there seen).1

pub invariant_of-self : goal.invariant_of-self
invariant_of-self c =
    let there : in_book c.self.inside.extent c.at_offset-resource.result ≡ true = subst (λ (book : Owners). in_book book.extent c.at_offset-resource.result ≡ true) (sym c.self.view_is)
    (subst (λ (r : Resource). in_book c.args.self.now.extent r ≡ true) (sym c.at_offset-resource.ensures) c.requires) in
    let seen = sees c.self.inside.extent c.self.inside.owners.items c.self.inside.used.items c.at_offset-resource.result c.args.owner _ _ _ _ c.index-2.result.now c.from-is_owned.result c.from-was_owned.result
    c.self.invariant there c.number_of-place.ensures.value c.index.ensures c.index-2.ensures c.is_some-2.ensures c.from-is_owned.ensures c.is_some.ensures c.from-was_owned.ensures in
    rw c.number_of-place.ensures.value (counted_anew c.self.inside.extent c.self.inside.owners.items c.self.inside.used.items c.at_offset-resource.result c.args.owner _ _ _ c.self.invariant there seen)

pub returns : goal.returns
returns c =
    let there : in_book c.self.inside.extent c.at_offset-resource.result ≡ true = subst (λ (book : Owners). in_book book.extent c.at_offset-resource.result ≡ true) (sym c.self.view_is)
    (subst (λ (r : Resource). in_book c.args.self.now.extent r ≡ true) (sym c.at_offset-resource.ensures) c.requires) in
    let written = write_one c.self.inside.extent c.self.inside.owners.items c.at_offset-resource.result c.args.owner c.self.invariant.book.long there in
    let next : Owners = record { extent = c.self.inside.extent; owners = set c.self.inside.owners.items c.number_of-place.result c.args.owner } in
    let at_place : AreOwned (record { extent = c.self.inside.extent; owners = c.self.inside.owners.items }) (c.at_offset-resource.result ∷ []) c.args.owner next =
    subst (λ place. AreOwned (record { extent = c.self.inside.extent; owners = c.self.inside.owners.items }) (c.at_offset-resource.result ∷ []) c.args.owner (record { extent = c.self.inside.extent; owners = set c.self.inside.owners.items place c.args.owner })) (sym c.number_of-place.ensures.value) written in
    let of_self : AreOwned c.args.self.now (c.at_offset-resource.result ∷ []) c.args.owner next = subst (λ (book : Owners). AreOwned book (c.at_offset-resource.result ∷ []) c.args.owner next) c.self.view_is at_place in
    subst (λ (r : Resource). AreOwned c.args.self.now (r ∷ []) c.args.owner next) c.at_offset-resource.ensures of_self
