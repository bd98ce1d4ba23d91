-- The names that this crate's proofs use, but for its own lemmas.
pub use Rattle.std.proofs.Common.{Bool, List, None, Option, Some, [], ap, arith, cond, drop, false, get_or, get_or-set_other, get_or-set_same, inl, inr, length, length-drop, length-set, map, refl, replicate, rules, subst, suc, sym, take, true, zero, ℕ, ◌%◌, ◌*◌, ◌++◌, ◌+◌, ◌-◌, ◌/◌, ◌<◌, ◌||◌, ◌∙◌, ◌∷◌, ◌≡◌, ◌≢◌, ◌≤◌, ◌⊎◌}
pub use Rattle.std.proofs.Math.ListN.{set}
pub use Rattle.std.proofs.Math.Nat.{div-lt_iff_lt-mul, mul-le-mul_right}
pub use Rattle.std.proofs.lemmas.Bool.{and_from, cases_eq, cases_lt, le-leb, lt-ltb}
pub use Rattle.std.proofs.lemmas.Bool.Decides.{nat_tests}
pub use Rattle.std.proofs.lemmas.List.{drop-set-add, drop-set-lt, get_or-drop, get_or-replicate, get_or-take, get_or_read, length-replicate, length-take-le, map_more, take-set-le}
pub use Rattle.std.proofs.lemmas.List.Elements.{All-drop, All-replicate, All-take, Contains-append_left, Contains-get_or, Contains-push, Contains-push_cases}
pub use Rattle.std.proofs.lemmas.List.Folds.{list_any-append}
pub use Rattle.std.proofs.lemmas.List.Quantifiers.{all_pairs_push}
pub use Rattle.std.proofs.lemmas.List.Sums.{count_by-le-length, get_or-le-sum_by, sum_by-le, sum_by-set}
pub use Rattle.std.proofs.lemmas.Nat.{div-add-mod', div-mul-add, mod-mul-add, mod_below, mul-le}
pub use Rattle.std.specs.Int.{from_bool}
pub use Rattle.std.specs.List.{All, count_by}
pub use Rattle.std.specs.Prelude.{Contains, if◌then◌else◌, is_some}
pub use Rattle.device_book.specs.Columns.{IsWhole, ListsBefore, ListsPlaces, column_size}
unfoldable pub use Rattle.device_book.specs.Columns.{owned_in}
pub use Rattle.device_book.specs.Owners.{AreOwned, IsBook, IsExtent, ListsOwners, Owners, in_book, no_owners, number_of, owner_of, size_of}
pub use Rattle.device_book.specs.declared.book.Extent.{Extent}
pub use Rattle.device_book.specs.declared.book.Owned.{Owned}
pub use Rattle.rr_graph.specs.Resources.{IsEarlier, has, is_same, moved_resource, resource_rank}
pub use Rattle.rr_graph.specs.declared.resource.Resource.{Resource}
pub use Rattle.rr_graph.specs.declared.resource.ResourceKind.{ResourceKind}
pub use Rattle.rr_graph.specs.declared.resource.ResourceKind.TheVariants.{Opin, Pad}
