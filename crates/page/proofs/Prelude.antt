-- The names that this crate's proofs use, but for its own lemmas.
pub use Rattle.std.proofs.Common.{Bool, List, [], ap, cond, eqb, false, inl, inr, leb, not, refl, subst, sym, take, true, ℕ, ◌&&◌, ◌++◌, ◌==◌, ◌∙◌, ◌∷◌, ◌≡◌, ◌⊎◌}
pub use Rattle.std.proofs.lemmas.List.Folds.{list_all-append}
pub use Rattle.std.proofs.lemmas.Option.{slice_get-get_or}
pub use Rattle.std.specs.List.{flat_map, list_all}
pub use Rattle.line_text.proofs.WritingLemmas.{all_loop, part_first, part_loop, part_then, writes_part, writes_same, writes_then}
pub use Rattle.line_text.specs.Writing.{TakesAll}
pub use Rattle.page.specs.Pages.{item_text}
pub use Rattle.page.specs.Shown.{escape_of, is_inert}
