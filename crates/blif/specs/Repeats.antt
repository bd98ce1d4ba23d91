-- Private: names that repeat or are not driven, without their indices.
use Rattle.std.specs.Prelude.{ℕ, not, List, [], ◌∷◌, ◌++◌, filter, if◌then◌else◌}
use Rattle.blif.specs.Names.{has_name}

-- those of the names that are taken or occur earlier among them
abbrev pub repeats : List (List ℕ) → List (List ℕ) → List (List ℕ)
repeats taken [] = []
repeats taken (name ∷ names) = (if has_name taken name then name ∷ [] else []) ++ repeats (taken ++ name ∷ []) names

-- those of the names that are not driven
abbrev pub undriven_names : List (List ℕ) → List (List ℕ) → List (List ℕ)
undriven_names drivers names = filter (λ name. not (has_name drivers name)) names
