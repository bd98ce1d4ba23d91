-- The names that this crate's proofs use, but for its own lemmas.
pub use Rattle.std.proofs.Common.{Bool, List, None, Option, Some, [], ap, arith, cond, count_by, false, flat_map, get_or, inl, inr, length, length-set, nat_eq, not, option_to_list, refl, replicate, set, slice_index_or, subst, sym, take, true, ℕ, ◌++◌, ◌+◌, ◌<◌, ◌||◌, ◌∙◌, ◌∷◌, ◌≡◌, ◌≤◌}
pub use Rattle.std.proofs.lemmas.Bool.Decides.{eqb_tells}
pub use Rattle.std.proofs.lemmas.List.{flat_map_more, get_or-replicate, get_or-set_other, get_or-set_same, length-replicate, take_more}
pub use Rattle.std.proofs.lemmas.List.Elements.{All-append, All-cons, All-get_or, All-nil, All-tail}
pub use Rattle.std.proofs.lemmas.List.Folds.{list_any-append}
pub use Rattle.std.proofs.lemmas.List.Sums.{count_by_more_no, count_by_more_yes, sum_by-cons}
pub use Rattle.std.proofs.lemmas.Option.{get_or_from_slice_get, slice_get_within}
pub use Rattle.std.specs.List.{All, slice_get}
pub use Rattle.std.specs.Option.{ForSome}
pub use Rattle.blif.specs.LawfulCircuits.{IsCircuit, IsLatchWithin, IsTableWithin, has_net}
pub use Rattle.blif.specs.LookupTables.{LookupTable}
pub use Rattle.blif.specs.declared.circuit.Circuit.{Circuit}
pub use Rattle.blif.specs.declared.latches.Latch.{Latch}
pub use Rattle.unread_tables.specs.Unread.{AreMarks, read_nets, reads_of}
