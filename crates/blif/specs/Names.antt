-- Names of nets, as lists of bytes.
use Rattle.std.specs.Prelude.{ℕ, ◌+◌, Bool, List, [], ◌∷◌, ◌++◌, Option, Some, None, filter, if◌then◌else◌}
use Rattle.std.specs.List.{enumerate_from}
pub use Rattle.line_text.specs.Names.{has_name, number_of, with_name, with_names}
pub use Rattle.line_text.specs.Words.{texts}

-- the first of a list, if it has one
abbrev pub first_of : {A : Type 0} → List A → Option A
first_of [] = None
first_of (x ∷ xs) = Some x

-- those of the names that are taken or occur earlier among them, each with its index, counted from
-- `place`
abbrev pub repeats_from : ℕ → List (List ℕ) → List (List ℕ) → List (ℕ × List ℕ)
repeats_from place taken [] = []
repeats_from place taken (name ∷ names) = (if has_name taken name then (place, name) ∷ [] else []) ++ repeats_from (place + 1) (taken ++ name ∷ []) names

-- those of the names that pass the test, each with its index
abbrev pub names_with_index : (List ℕ → Bool) → List (List ℕ) → List (ℕ × List ℕ)
names_with_index test names = filter (λ name. test name.1) (enumerate_from 0 names)
