-- The owners found so far, as they are listed.
use Rattle.device_book.proofs.Prelude.{◌≡◌, ℕ, ◌+◌, ◌*◌, ◌<◌, ◌≤◌, List, [], ◌∷◌, ◌++◌, length, get_or, true, Option, Some, None, sym, ap, subst, ◌∙◌, inl, inr, arith, Contains, if◌then◌else◌, cases_eq, Contains-append_left, Contains-get_or, Contains-push, Contains-push_cases, all_pairs_push, Resource, IsEarlier, Owned, ListsPlaces, column_size, owned_in, ListsOwners, Owners, in_book, number_of, owner_of, size_of}
use Rattle.device_book.proofs.Columns.{nobody_in}
use Rattle.device_book.proofs.Places.{earlier_place, one_resource, place_within}

abbrev value : Option ℕ → ℕ
value None = 0
value (Some id) = id

-- what is owned is in the book, and its owner is in its place
owned_there : (book : Owners) (resource : Resource) (id : ℕ) → owner_of book resource ≡ Some id →
    (in_book book.extent resource ≡ true) × (get_or book.owners (number_of book.extent resource) None ≡ Some id)
owned_there book resource id e = grind arith

owned_by : (book : Owners) (resource : Resource) (owner : Option ℕ) → in_book book.extent resource ≡ true → get_or book.owners (number_of book.extent resource) None ≡ owner →
    owner_of book resource ≡ owner
owned_by book resource owner there e = ap (λ b. if b then get_or book.owners (number_of book.extent resource) None else None) there ∙ e

-- an owner that equals no id is `None`
pub no_owner : (owner : Option ℕ) → ((id : ℕ) → owner ≡ Some id → ⊥) → owner ≡ None
no_owner owner none = grind arith

pub lists_none : (book : Owners) → ListsPlaces book 0 []
lists_none book = record { in_order = λ i j d lt few. absurd (omega (arith, few)); exact = λ owned. ((λ within. absurd (omega (arith, within.1))), (λ there. absurd (omega (arith, there.1)))) }

pub lists_free : (book : Owners) (place : ℕ) (list : List Owned) → get_or book.owners place None ≡ None → ListsPlaces book place list → ListsPlaces book (place + 1) list
lists_free book place list free = grind arith

-- nobody owns a place of the next column, so the list stays as it is
pub lists_free_column : (book : Owners) (column : ℕ) (list : List Owned) → length book.owners ≡ size_of book.extent → column ≤ book.extent.columns → owned_in book.extent book.owners column ≡ 0 →
    ListsPlaces book (column * column_size book.extent) list → ListsPlaces book ((column + 1) * column_size book.extent) list
lists_free_column book column list long within none = grind (arith, nobody_in)

-- the next place is owned, so its owner is appended
pub lists_owned : (book : Owners) (place : ℕ) (list : List Owned) (resource : Resource) (id : ℕ) → get_or book.owners place None ≡ Some id →
    in_book book.extent resource ≡ true → number_of book.extent resource ≡ place → ListsPlaces book place list → ListsPlaces book (place + 1) (list ++ record { resource = resource; id = id } ∷ [])
lists_owned book place list resource id has there at' so_far = record {
  in_order = all_pairs_push (λ a b. IsEarlier a.resource b.resource) list (record { resource = resource; id = id }) so_far.in_order
      (λ k d lt. let found = (so_far.exact (get_or list k d)).0 (Contains-get_or list k d lt) in
      let inside = owned_there book (get_or list k d).resource (get_or list k d).id found.0 in
      earlier_place book.extent (get_or list k d).resource resource inside.0 there (omega (arith, found.1, at')));
  exact = λ owned. (found owned, listed owned);
}
  where
    mine : owner_of book resource ≡ Some id
    mine = owned_by book resource (Some id) there (ap (λ k. get_or book.owners k None) at' ∙ has)

    found : (owned : Owned) → Contains (list ++ record { resource = resource; id = id } ∷ []) owned → (owner_of book owned.resource ≡ Some owned.id) × (number_of book.extent owned.resource < place + 1)
    found owned within = elim (Contains-push_cases list (record { resource = resource; id = id }) owned within) [
      | inl before ↦ (let kept = (so_far.exact owned).0 before in (kept.0, omega (arith, kept.1)))
      | inr same ↦ subst (λ o. (owner_of book o.resource ≡ Some o.id) × (number_of book.extent o.resource < place + 1)) same (mine, omega (arith, at'))
    ]

    listed : (owned : Owned) → (owner_of book owned.resource ≡ Some owned.id) × (number_of book.extent owned.resource < place + 1) → Contains (list ++ record { resource = resource; id = id } ∷ []) owned
    listed owned is = elim (cases_eq (number_of book.extent owned.resource) place) [
      | inl here ↦ (let inside = owned_there book owned.resource owned.id is.0 in
          let one : resource ≡ owned.resource = one_resource book.extent resource owned.resource there inside.0 (at' ∙ sym here) in
          let ids : id ≡ owned.id = ap value (sym mine ∙ (ap (owner_of book) one ∙ is.0)) in
          subst (Contains (list ++ record { resource = resource; id = id } ∷ [])) (ap (λ r. record { resource = r; id = id }) one ∙ ap (λ i. record { resource = owned.resource; id = i }) ids) (Contains-push list (record { resource = resource; id = id })))
      | inr other ↦ Contains-append_left list (record { resource = resource; id = id } ∷ []) owned ((so_far.exact owned).1 (is.0, omega (arith, is.1, other)))
    ]

-- after all columns, the list is complete
pub lists_all : (book : Owners) (list : List Owned) → ListsPlaces book ((book.extent.columns + 1) * column_size book.extent) list → ListsOwners book list
lists_all book list all = grind (arith, place_within)
