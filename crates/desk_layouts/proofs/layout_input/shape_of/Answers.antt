use Rattle.desk_layouts.proofs.Prelude.{◌≡◌, ◌∙◌, ℕ, Option, Some, None, IfSome, ap, sym, IfSome_then, option_map_or, unwrap_or, HasSize, StripSize}
use Rattle.desk_layouts.proofs.layout_input.shape_of.Goals as goal

columns_are : (given : Option ℕ) (found : Option StripSize) (columns rows : ℕ) → IfSome given (λ told. columns ≡ told) → HasSize found columns rows → columns ≡ unwrap_or given (option_map_or (λ size. size.columns) found 1)
columns_are (Some told) found columns rows same has = same
columns_are None (Some size) columns rows same has = sym has.0
columns_are None None columns rows same has = absurd has

rows_are : (given : Option ℕ) (found : Option StripSize) (columns rows : ℕ) → IfSome given (λ told. rows ≡ told) → HasSize found columns rows → rows ≡ unwrap_or given (option_map_or (λ size. size.rows) found 1)
rows_are (Some told) found columns rows same has = same
rows_are None (Some size) columns rows same has = sym has.1
rows_are None None columns rows same has = absurd has

pub returns-clause-only : goal.returns-clause-only
returns-clause-only c =
    IfSome_then c.new.result c.new.ensures.some (λ shape is asked wanted on.
    let has = c.size_in_places.ensures asked.columns asked.rows (asked.columns_lawful, asked.rows_lawful) on in
    let columns = columns_are c.args.paths.columns c.size_in_places.result asked.columns asked.rows wanted.1 has in
    let rows = rows_are c.args.paths.rows c.size_in_places.result asked.columns asked.rows wanted.2 has in (
      columns ∙ sym (is.0 ∙ c.unwrap_or-columns.ensures ∙ ap (unwrap_or c.args.paths.columns) c.numbers_of-columns.ensures.columns),
      rows ∙ sym (is.1 ∙ c.unwrap_or-rows.ensures ∙ ap (unwrap_or c.args.paths.rows) c.numbers_of-columns.ensures.rows),
    ))
