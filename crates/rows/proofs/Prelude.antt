-- The names that this crate's proofs use, but for its own lemmas.
pub use Rattle.std.proofs.Common.{List, [], ap, arith, cond, drop, eq-eqb, eqb, filter, get_or, get_or-set_other, get_or-set_same, inl, inr, length, length-append, length-drop, length-take, map, refl, rules, set, sym, take, take-append-drop, ℕ, ◌++◌, ◌+◌, ◌-◌, ◌<◌, ◌∙◌, ◌∷◌, ◌≡◌, ◌≢◌, ◌≤◌}
pub use Rattle.std.proofs.lemmas.Bool.{cases_eq, cases_lt, ne_eqb}
pub use Rattle.std.proofs.lemmas.Bool.Decides.{nat_tests}
pub use Rattle.std.proofs.lemmas.Grind.{common_steps}
pub use Rattle.std.proofs.lemmas.List.{append-nil, drop-append-le, drop-set-add, drop-set-lt, drop_at, get_or-map, length-map, map-append, map_push, take-append-le, take-set-le, take_all, take_at, take_more_set}
pub use Rattle.std.proofs.lemmas.List.Elements.{All-from_get_or, filter-append, filter_more, recursion_from_All}
pub use Rattle.std.proofs.lemmas.List.FromFn.{fill_by_all}
pub use Rattle.rows.specs.ByKey.{items_by_key, items_with}
pub use Rattle.rows.specs.Counting.{AreCounted, AreFilled, ArePlaced, span_at, start_of}
pub use Rattle.rows.specs.Spans.{AreWithin, part_of}
pub use Rattle.rows.specs.declared.by_key.Keyed.{Keyed}
pub use Rattle.rows.specs.declared.span.Span.{Span}
