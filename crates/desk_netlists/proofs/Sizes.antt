-- Sizes of a device that no options ask for.
use Rattle.desk_netlists.proofs.Prelude.{ℕ, List, Option, Some, None, Result, Ok, Err, OnErr, codes, IsNumberIn, IsSizeAskedFor, Size, Given as GivenBoth, LeastSquare, LeastColumns, LeastRows}
use Rattle.option_words.specs.declared.given.Given.{Given}

-- what holds, holds of an error
pub on_error : {T E P : Type 0} (result : Result T E) → P → OnErr result P
on_error (Ok value) h = tt
on_error (Err error) h = h

module _ (given : Given) where
  -- an option with columns that is no number
  pub no_columns : ((number : Option ℕ) → IsNumberIn given (codes "columns") number → ⊥) → (size : Size) → IsSizeAskedFor given size → ⊥
  no_columns none (GivenBoth size) asked = none (Some size.columns) asked.0.0
  no_columns none LeastSquare asked = none None asked.0.0
  no_columns none (LeastColumns rows) asked = none None asked.0
  no_columns none (LeastRows columns) asked = none (Some columns) asked.0.0

  -- an option with rows that is no number
  pub no_rows : ((number : Option ℕ) → IsNumberIn given (codes "rows") number → ⊥) → (size : Size) → IsSizeAskedFor given size → ⊥
  no_rows none (GivenBoth size) asked = none (Some size.rows) asked.0.1
  no_rows none LeastSquare asked = none None asked.0.1
  no_rows none (LeastColumns rows) asked = none (Some rows) asked.1
  no_rows none (LeastRows columns) asked = none None asked.0.1
